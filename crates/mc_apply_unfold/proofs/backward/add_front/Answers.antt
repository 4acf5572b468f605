use Rattle.std.proofs.Common.{length, subst, sym}
use Rattle.mc_state.specs.Graph.Edges.{nodes_of}
use Rattle.mc_state.specs.Fits.{AreNodes}
use Rattle.mc_apply_unfold.proofs.After.{front_there}
use Rattle.mc_apply_unfold.proofs.backward.add_front.Goals as goal

pub add_edge-requires : goal.add_edge-requires
add_edge-requires c =
    let seg = c.args.seg.now in
    let kinds = c.args.s.now.kinds in
    subst (λ e. AreNodes kinds (nodes_of e)) (sym c.in_ok-edge.ensures)
    (front_there c.rules_stand_at_nodes.ensures.name_there kinds c.args.nodes.now c.requires.nodes seg.at seg.args.now seg.pred (length seg.args.now) c.requires.start)
