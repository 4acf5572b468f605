use Rattle.std.proofs.Common.{[], ◌∷◌, sym, subst}
use Rattle.mc_state.specs.Graph.Edges.{nodes_of}
use Rattle.mc_state.specs.State.{State}
use Rattle.mc_state.specs.Fits.{AreNodes}
use Rattle.mc_symbolic.specs.Kept.{seen}
use Rattle.mc_symbolic.proofs.Kept.{same_more, same_still}
use Rattle.mc_symbolic.proofs.state.State.add_edge.Goals as goal

pub invariant_of-self-in-Ok : goal.invariant_of-self-in-Ok
invariant_of-self-in-Ok c =
    let i = c.self.inside in
    let h = subst (λ (z : State). AreNodes z.kinds (nodes_of c.args.edge)) (sym c.self.view_is) c.requires in
    rw (c.in_ok-id.ensures.ok, c.in-Ok.ensures.ok) (record {
      bounded = c.numbers_stay_bounded.ensures.edges (seen i) (c.args.edge ∷ []) c.self.invariant.bounded (h, tt);
      starts = same_more i.pure.starts i.graph.edges (record { 0 = i.graph.next }) c.args.edge c.in-Some.at (sym c.in-Some.ensures) c.self.invariant.starts;
      atoms = c.self.invariant.atoms;
    })

pub invariant_of-self-in-None : goal.invariant_of-self-in-None
invariant_of-self-in-None c =
    let i = c.self.inside in
    let h = subst (λ (z : State). AreNodes z.kinds (nodes_of c.args.edge)) (sym c.self.view_is) c.requires in
    rw (c.in_ok-id.ensures.ok) (record {
      bounded = c.numbers_stay_bounded.ensures.edges (seen i) (c.args.edge ∷ []) c.self.invariant.bounded (h, tt);
      starts = same_still i.pure.starts i.graph.edges (record { 0 = i.graph.next }) c.args.edge (sym c.in-None.ensures) c.self.invariant.starts;
      atoms = c.self.invariant.atoms;
    })
