use Rattle.std.proofs.Common.{◌≡◌, drop}
use Rattle.std.specs.List.{list_any}
use Rattle.mc_state.specs.Known.{Test, Tells}
use Rattle.mc_rules_steps.specs.Judges.{is_shaped_at}
use Rattle.mc_find_paths.proofs.next.stepping.has_shaped.Given as goal

abbrev pub invariant-loop-edge : goal.invariant-loop-edge
invariant-loop-edge l =
    (know : Test) → Tells know l.state
    → list_any (is_shaped_at know l.node l.shape) (drop l.edge-index l.state.graph.edges) ≡ list_any (is_shaped_at know l.node l.shape) l.state.graph.edges
