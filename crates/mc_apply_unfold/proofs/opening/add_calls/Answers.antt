use Rattle.std.proofs.Common.{None, [], ◌∷◌, subst, sym}
use Rattle.mc_state.specs.Graph.Edges.{nodes_of}
use Rattle.mc_state.specs.Fits.{AreNodes}
use Rattle.mc_apply_unfold.proofs.opening.add_calls.Goals as goal

pub add_edge-requires : goal.add_edge-requires
add_edge-requires c =
    let kinds = c.loop-call.s.kinds in
    subst (λ e. AreNodes kinds (nodes_of e)) (sym c.in_ok-edge.ensures)
    (c.rules_stand_at_nodes.ensures.body_there kinds c.args.nodes.now None [] (c.call-item.result ∷ []) c.loop-call.invariant.1).0
