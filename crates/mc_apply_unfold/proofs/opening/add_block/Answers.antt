use Rattle.std.proofs.Common.{Some, [], subst, sym}
use Rattle.mc_state.specs.Graph.Edges.{nodes_of}
use Rattle.mc_state.specs.Fits.{AreNodes}
use Rattle.mc_apply_unfold.proofs.opening.add_block.Goals as goal

pub add_edge-requires : goal.add_edge-requires
add_edge-requires c =
    let kinds = c.args.s.now.kinds in
    subst (λ e. AreNodes kinds (nodes_of e)) (sym c.in_ok-edge.ensures)
    (c.rules_stand_at_nodes.ensures.body_there kinds c.args.nodes.now (Some c.in-Some.shape) c.args.rule.now.contents [] c.requires).0
