use Rattle.std.proofs.Common.{◌≡◌, drop}
use Rattle.std.specs.List.{find}
use Rattle.mc_state.specs.Known.{Test, Tells}
use Rattle.mc_kernel.specs.Progress.Asked.{ends_at}
use Rattle.mc_find_paths.proofs.next.unfolding.at_end.Given as goal

abbrev pub invariant-loop-edge : goal.invariant-loop-edge
invariant-loop-edge l =
    (know : Test) → Tells know l.state
    → find (ends_at know l.defs l.node) (drop l.edge-index l.state.graph.edges) ≡ find (ends_at know l.defs l.node) l.state.graph.edges
