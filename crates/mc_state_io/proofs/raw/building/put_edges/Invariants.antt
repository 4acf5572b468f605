use Rattle.std.proofs.Common.{◌≡◌, take}
use Rattle.mc_state.specs.State.{with_edges}
use Rattle.mc_state_io.proofs.raw.building.put_edges.Given as goal

abbrev pub invariant-loop-edge : goal.invariant-loop-edge
invariant-loop-edge l = l.state ≡ with_edges l.initial.state (take l.edge-index l.edges)
