use Rattle.std.proofs.Common.{◌≡◌, drop}
use Rattle.std.specs.List.{find}
use Rattle.mc_state.specs.Known.{Test, Tells}
use Rattle.mc_kernel.specs.Progress.Asked.{starts_at}
use Rattle.mc_find_paths.proofs.next.unfolding.at_start.Given as goal

abbrev pub invariant-loop-edge : goal.invariant-loop-edge
invariant-loop-edge l =
    (know : Test) → Tells know l.state
    → find (starts_at know l.node) (drop l.edge-index l.state.graph.edges) ≡ find (starts_at know l.node) l.state.graph.edges
