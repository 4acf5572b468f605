use Rattle.std.proofs.Common.{rules, ◌≡◌, ◌∙◌, Some, None, ap, map, slice_get, subst, sym}
use Rattle.mc_state.specs.Graph.Edges.{nodes_of}
use Rattle.mc_state.specs.Bodies.{call_edge}
use Rattle.mc_state.specs.Fits.{AreNodes}
use Rattle.mc_state.specs.State.{State, with_edges}
use Rattle.mc_apply_unfold.proofs.After.{around_edges, calls_past, segment_there}
use Rattle.mc_apply_unfold.proofs.opening.add_calls_to.Goals as goal

pub returns-in_ok-add_calls-in-None : goal.returns-in_ok-add_calls-in-None
returns-in_ok-add_calls-in-None c =
    let none : slice_get c.args.calls.now c.args.place ≡ None = search rules in
    c.in_ok-add_calls-in-None.ensures ∙ ap (with_edges c.args.s.now) (calls_past c.args.nodes.now c.args.end c.args.ends.now c.args.place c.args.calls.now none)

pub add_edge-requires : goal.add_edge-requires
add_edge-requires c =
    let there = segment_there c.rules_stand_at_nodes.ensures.name_there c.args.s.now.kinds c.args.nodes.now c.requires.nodes c.args.end c.args.ends.now c.in-Some.call.now c.requires.ends in
    subst (λ (t : State). AreNodes t.kinds (nodes_of c.in_ok-edge-in-Some.edge)) (sym c.in_ok-add_calls-in-Some.ensures)
    (subst (λ e. AreNodes c.args.s.now.kinds (nodes_of e)) (sym c.in_ok-edge-in-Some.ensures) there)

pub returns-in_ok-add_calls-in-Some-2 : goal.returns-in_ok-add_calls-in-Some-2
returns-in_ok-add_calls-in-Some-2 c =
    let some : slice_get c.args.calls.now c.args.place ≡ Some c.in-Some.call.now = search rules in
    around_edges c.args.s.now _ _ _ c.args.nodes.now c.args.end c.args.ends.now c.args.place c.args.calls.now c.in-Some.call.now c.in_ok-edge-in-Some.edge
    some c.in_ok-add_calls-in-Some.ensures c.in_ok-edge-in-Some.ensures c.in_ok-add_edge-in-Some.ensures.ok
    (c.in_ok-add_calls-in-Some-2.ensures ∙ ap (λ cs. with_edges c.add_edge.new.self (map (call_edge c.args.nodes.now) cs)) c.calls_behind.ensures)
