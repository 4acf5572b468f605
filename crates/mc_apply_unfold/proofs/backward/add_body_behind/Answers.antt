use Rattle.std.proofs.Common.{rules, ◌≡◌, ◌∙◌, ap, drop, length, map, remove, take}
use Rattle.mc_flow.specs.Defs.Instances.{node_of}
use Rattle.mc_state.specs.declared.graph.edge.Edge.TheVariants.{Seg}
use Rattle.mc_state.specs.Bodies.{block_edges, call_edge}
use Rattle.mc_state.specs.State.{with_edges}
use Rattle.mc_apply_unfold.proofs.After.{three_edges}
use Rattle.mc_apply_unfold.proofs.backward.add_body_behind.Goals as goal

pub returns : goal.returns
returns c =
    let seg = c.args.seg.now in
    let rule = c.args.rule.now in
    let nodes = c.args.nodes.now in
    let list : c.as_slice.result.now ≡ rule.calls = search rules in
    three_edges c.args.s.now c.add_front.new.s c.add_block.new.s c.add_calls_without.new.s
    (Seg seg.at seg.args.now seg.pred (node_of nodes 0) (take (length seg.args.now) (drop 1 nodes)))
    (block_edges nodes rule.block rule.contents) (map (call_edge nodes) (remove rule.calls c.args.place))
    c.in_ok-add_front.ensures c.in_ok-add_block.ensures
    (c.in_ok-add_calls_without.ensures ∙ ap (λ cs. with_edges c.add_block.new.s (map (call_edge nodes) (remove cs c.args.place))) list)
