use Rattle.std.proofs.Common.{option_map, sym, subst, ap, ◌∙◌}
use Rattle.mc_base.specs.Nodes.{moved}
use Rattle.mc_pure.specs.Pure.{Kinds, IsNode}
use Rattle.mc_pure_ops.specs.Renaming.Images.{image}
use Rattle.mc_state.specs.State.{State}
use Rattle.mc_joins.proofs.AnewLemmas.Filling.{known_at, vars_next}
use Rattle.mc_joins.proofs.anew.numbered.put_vars.Goals as goal

pub set_var-requires : goal.set_var-requires
set_var-requires c =
    let f = image c.args.renaming.now in
    λ n e.
    subst (λ (z : Kinds). IsNode z n) (sym (ap (λ (z : State). z.kinds) c.loop-place.invariant))
    (known_at c.args.fresh.now.kinds f c.args.env.now c.loop-place.place _ c.loop-place-test.true c.requires.there n (sym c.moved_field.ensures ∙ e))

pub loop-place-preserved : goal.loop-place-preserved
loop-place-preserved c =
    vars_next (option_map (moved (image c.args.renaming.now))) c.args.fresh.now c.args.env.now c.requires.long
    c.loop-place.fresh c.set_var.new.self c.loop-place.place _ c.moved_field.result c.loop-place-test.true c.loop-place.invariant c.moved_field.ensures c.set_var.ensures
