use Rattle.std.proofs.Common.{List, Option, map, option_map, refl, sym, ap, subst, ◌∙◌}
use Rattle.mc_base.specs.declared.ids.NodeId.{NodeId}
use Rattle.mc_base.specs.Nodes.{moved}
use Rattle.mc_state.specs.State.{State}
use Rattle.mc_state.specs.Facts.{CanMerge, instead}
use Rattle.mc_symbolic.specs.Kept.{seen}
use Rattle.mc_symbolic.proofs.Merging.{merges}
use Rattle.mc_symbolic.proofs.state.State.merge.Goals as goal

pub invariant_of-self-2 : goal.invariant_of-self-2
invariant_of-self-2 c =
    let i = c.self.inside in
    let can = subst (λ (z : State). CanMerge z.kinds c.args.keep c.args.gone) (sym c.self.view_is) c.requires in
    let e = c.of.ensures ∙ (c.in_ok-env.ensures ∙ ap (λ (z : List (Option NodeId)). map (option_map (moved (instead c.args.keep.0 c.args.gone.0))) z) c.as_slice.ensures) in
    let k = merges c.numbers_stay_bounded.ensures.merged c.args.keep c.args.gone (seen i) i.pure c.of.result c.merge-2.new.self c.in_ok-pure.pure can c.self.invariant.bounded refl refl c.self.invariant.atoms c.self.invariant.starts e c.in_ok-merge.ensures.ok c.in_ok-pure.ensures in
    record { bounded = k.bounded; starts = k.same; atoms = k.formed }
