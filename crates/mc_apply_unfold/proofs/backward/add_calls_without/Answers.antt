use Rattle.std.proofs.Common.{◌∙◌, ap, map}
use Rattle.mc_state.specs.Bodies.{call_edge}
use Rattle.mc_state.specs.State.{with_edges}
use Rattle.mc_apply_unfold.proofs.After.{without_call}
use Rattle.mc_apply_unfold.proofs.backward.add_calls_without.Goals as goal

pub returns : goal.returns
returns c =
    let nodes = c.args.nodes.now in
    without_call c.args.s.now c.add_calls.new.s c.add_calls-2.new.s nodes c.args.calls.now c.args.place c.in_ok-add_calls.ensures
    (c.in_ok-add_calls-2.ensures ∙ ap (λ cs. with_edges c.add_calls.new.s (map (call_edge nodes) cs)) c.calls_behind.ensures)
