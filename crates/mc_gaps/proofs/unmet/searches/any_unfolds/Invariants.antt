use Rattle.std.proofs.Common.{◌≡◌, drop}
use Rattle.std.specs.List.{list_any}
use Rattle.mc_state.specs.Known.{Test, Tells}
use Rattle.mc_gaps.specs.Unmet.Gaps.{may_unfold}
use Rattle.mc_gaps.proofs.unmet.searches.any_unfolds.Given as goal

abbrev pub invariant-loop-edge : goal.invariant-loop-edge
invariant-loop-edge l =
    (know : Test) → Tells know l.s
    → list_any (may_unfold know l.defs l.node) (drop l.edge-index l.s.graph.edges) ≡ list_any (may_unfold know l.defs l.node) l.s.graph.edges
