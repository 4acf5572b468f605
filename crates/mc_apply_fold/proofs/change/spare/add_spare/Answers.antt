use Rattle.std.proofs.Common.{◌≡◌, ◌∷◌, ◌∙◌, [], ap, subst, sym}
use Rattle.mc_base.specs.declared.ids.NodeId.{NodeId}
use Rattle.mc_base.specs.declared.plain.Atom.{Atom}
use Rattle.mc_base.specs.declared.plain.Atom.TheVariants.{Eq}
use Rattle.mc_pure.specs.Pure.{IsWellFormed}
use Rattle.mc_state.specs.State.{State, next_node, with_nodes}
use Rattle.mc_apply_fold.proofs.ChangeLemmas.Spared.{spare_fits}
use Rattle.mc_apply_fold.proofs.change.spare.add_spare.Goals as goal

pub assume-requires : goal.assume-requires
assume-requires c =
    let s = c.args.s.now in
    let r = c.args.rule.now in
    let fits = spare_fits c.naming_makes_well.ensures.spare s r.node r.add r.kind c.requires.made c.requires.spare in
    let atom : c.equation.result ≡ Eq (next_node s) r.node r.add = c.equation.ensures ∙ ap (λ (n : NodeId). Eq n r.node r.add) c.in_ok-node.ensures.node in
    subst (λ (t : State). IsWellFormed t.kinds c.equation.result) (sym c.in_ok-node.ensures.ok)
    (subst (λ (f : Atom). IsWellFormed (with_nodes s (r.kind ∷ [])).kinds f) (sym atom) fits)
