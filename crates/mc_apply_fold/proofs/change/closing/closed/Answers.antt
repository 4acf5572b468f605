use Rattle.std.proofs.Common.{rules, ◌≡◌, ◌∷◌, Some, List, subst, sym}
use Rattle.mc_base.specs.declared.ids.NodeId.{NodeId}
use Rattle.mc_state.specs.declared.graph.edge.Edge.TheVariants.{Seg}
use Rattle.mc_state.specs.Graph.Graph.{edge_with}
use Rattle.mc_state.specs.Fits.{AreNodes}
use Rattle.mc_apply_fold.proofs.change.closing.closed.Goals as goal

pub returns-in-Ok-clause-nodes : goal.returns-in-Ok-clause-nodes
returns-in-Ok-clause-nodes c =
    let s = c.args.s.now in
    let seg = c.in-Some-Seg in
    let there : edge_with s.graph.edges c.args.first ≡ Some (Seg seg.at seg.args seg.pred seg.end seg.end_args) = search rules in
    let here = c.named_edges_are_here.ensures s.kinds s.graph.edges c.args.first seg.at seg.args seg.pred seg.end seg.end_args c.is_bounded.ensures.bounded.edges there in
    let same : c.as_slice-3.result.now ≡ seg.args = search rules in
    c.in-Ok.ensures.there s.kinds (subst (λ (ns : List NodeId). AreNodes s.kinds (seg.at ∷ ns)) (sym same) here.0)
