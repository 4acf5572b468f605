use Rattle.std.proofs.Common.{◌<◌, ◌++◌, ◌∙◌, List, map, append-nil, length, sym, ap, arith}
use Rattle.mc_base.specs.declared.ids.NodeId.{NodeId}
use Rattle.mc_joins.specs.Steps.{node_for}
use Rattle.mc_replay.proofs.Pairing.{zip_past, zip_more}
use Rattle.mc_replay.proofs.made.all_for.Goals as goal

pub returns-in-None : goal.returns-in-None
returns-in-None c =
    sym (c.loop-place.invariant
    ∙ (ap (λ (z : List (NodeId × NodeId)). c.loop-place.nodes.items ++ map (λ p. node_for c.args.pairs.now p.0 p.1) z)
    (zip_past c.args.left.now c.args.right.now c.loop-place.place c.in-None.ensures.lookup.3)
    ∙ append-nil c.loop-place.nodes.items))

pub loop-place-preserved : goal.loop-place-preserved
loop-place-preserved c =
    let below : c.loop-place.place < length c.args.left.now = omega arith in
    zip_more (node_for c.args.pairs.now) c.args.left.now c.args.right.now c.loop-place.place _ c.in-Some.other.now _ c.loop-place.nodes.items c.push.new.self.items c.node_for.result
    below c.in-Some.ensures.lookup.3.0 c.in-Some.ensures.lookup.1 c.node_for.ensures c.in_ok-push-in-Some.ensures.items c.loop-place.invariant
