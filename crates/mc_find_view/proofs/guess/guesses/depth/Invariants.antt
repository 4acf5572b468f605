use Rattle.std.proofs.Common.{◌≡◌, ◌≤◌, ◌+◌, drop, length}
use Rattle.std.specs.List.{filter}
use Rattle.mc_cover.specs.Search.Setting.{is_unused}
use Rattle.mc_find_view.proofs.guess.guesses.depth.Given as goal

abbrev pub invariant-loop-entry : goal.invariant-loop-entry
invariant-loop-entry l =
    (l.count ≤ l.entry-index) × (l.count + length (filter (is_unused l.used) (drop l.entry-index l.state.graph.edges)) ≡ length (filter (is_unused l.used) l.state.graph.edges))
