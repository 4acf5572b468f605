use Rattle.std.proofs.Common.{◌≡◌, drop}
use Rattle.mc_state.specs.State.{with_edges}
use Rattle.mc_replay.proofs.whole.put_edges.Given as goal

abbrev pub invariant-loop-edge : goal.invariant-loop-edge
invariant-loop-edge l = record { put : with_edges l.out (drop l.edge-index l.edges) ≡ with_edges l.fn.out l.edges; kinds : l.out.kinds ≡ l.fn.out.kinds }
