use Rattle.std.proofs.Common.{◌≡◌, drop, map}
use Rattle.mc_state.specs.Bodies.{call_edge}
use Rattle.mc_state.specs.Fits.{AreNodes}
use Rattle.mc_state.specs.State.{with_edges}
use Rattle.mc_apply_unfold.proofs.opening.add_calls.Given as goal

abbrev pub invariant-loop-call : goal.invariant-loop-call
invariant-loop-call l =
    (with_edges l.s (map (call_edge l.nodes) (drop l.call-index l.calls)) ≡ with_edges l.fn.s (map (call_edge l.nodes) l.calls))
    × AreNodes l.s.kinds l.nodes
