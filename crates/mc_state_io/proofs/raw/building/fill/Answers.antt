use Rattle.std.proofs.Common.{List, sym, subst, ap, ◌∙◌}
use Rattle.mc_base.specs.declared.plain.Atom.{Atom}
use Rattle.mc_state.specs.declared.graph.edge.Edge.{Edge}
use Rattle.mc_pure.specs.Pure.{Kinds}
use Rattle.mc_state.specs.State.{State}
use Rattle.mc_state_io.specs.Raw.Raw.{AllAreThere, AllAtomsFit}
use Rattle.mc_state_io.proofs.raw.building.fill.Goals as goal

pub put_edges-requires : goal.put_edges-requires
put_edges-requires c =
    let there = subst (λ (z : List Edge). AllAreThere c.args.state.now.kinds z) (sym c.as_slice-2.ensures) c.requires.edges in
    subst (λ (z : State). AllAreThere z.kinds c.as_slice-2.result.now) (sym c.put_vars.ensures) there

pub put_atoms-requires : goal.put_atoms-requires
put_atoms-requires c =
    let fit = subst (λ (z : List Atom). AllAtomsFit c.args.state.now.kinds z) (sym c.as_slice-3.ensures) c.requires.atoms in
    let same = ap (λ (z : State). z.kinds) c.in_ok-put_edges.ensures ∙ ap (λ (z : State). z.kinds) c.put_vars.ensures in
    subst (λ (z : Kinds). AllAtomsFit z c.as_slice-3.result.now) (sym same) fit
