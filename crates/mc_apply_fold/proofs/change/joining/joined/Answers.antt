use Rattle.std.proofs.Common.{rules, ◌≡◌, ◌∷◌, Some, List, subst, sym}
use Rattle.mc_base.specs.declared.ids.NodeId.{NodeId}
use Rattle.mc_state.specs.declared.graph.edge.Edge.TheVariants.{Seg}
use Rattle.mc_state.specs.Graph.Graph.{edge_with}
use Rattle.mc_state.specs.Named.{other_edge}
use Rattle.mc_state.specs.Fits.{AreNodes}
use Rattle.mc_apply_fold.proofs.ChangeLemmas.Naming.{other_there}
use Rattle.mc_apply_fold.proofs.change.joining.joined.Goals as goal

pub returns-in-Ok-clause-nodes : goal.returns-in-Ok-clause-nodes
returns-in-Ok-clause-nodes c =
    let s = c.args.s.now in
    let seg = c.in-Some-Seg in
    let next = c.in-Some-Seg-other_edge in
    let law = c.named_edges_are_here.ensures in
    let all = c.is_bounded.ensures.bounded.edges in
    let there : edge_with s.graph.edges c.args.first ≡ Some (Seg seg.at seg.args seg.pred seg.end seg.end_args) = search rules in
    let other : other_edge s.graph.edges c.args.first c.args.second ≡ Some (Seg next.from next.from_args next.own next.last next.last_args) = search rules in
    let behind = other_there s.graph.edges c.args.first c.args.second (Seg next.from next.from_args next.own next.last next.last_args) other in
    let here = law s.kinds s.graph.edges c.args.first seg.at seg.args seg.pred seg.end seg.end_args all there in
    let too = law s.kinds s.graph.edges c.args.second next.from next.from_args next.own next.last next.last_args all behind in
    let same : c.as_slice-3.result.now ≡ seg.args = search rules in
    let ends : c.as_slice-4.result.now ≡ next.last_args = search rules in
    c.in-Ok.ensures.there s.kinds (subst (λ (ns : List NodeId). AreNodes s.kinds (seg.at ∷ ns)) (sym same) here.0)
    (subst (λ (ns : List NodeId). AreNodes s.kinds (next.last ∷ ns)) (sym ends) too.1)
