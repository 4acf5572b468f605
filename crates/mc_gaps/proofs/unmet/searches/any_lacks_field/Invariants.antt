use Rattle.std.proofs.Common.{◌≡◌, drop}
use Rattle.std.specs.List.{list_any}
use Rattle.mc_state.specs.Known.{Test, Tells}
use Rattle.mc_gaps.specs.Unmet.Gaps.{lacks_field}
use Rattle.mc_gaps.proofs.unmet.searches.any_lacks_field.Given as goal

abbrev pub invariant-loop-edge : goal.invariant-loop-edge
invariant-loop-edge l =
    (know : Test) → Tells know l.s
    → list_any (lacks_field know l.node l.shape l.field) (drop l.edge-index l.s.graph.edges) ≡ list_any (lacks_field know l.node l.shape l.field) l.s.graph.edges
