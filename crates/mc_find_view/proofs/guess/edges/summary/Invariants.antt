use Rattle.std.proofs.Common.{◌≡◌, drop}
use Rattle.std.specs.List.{filter}
use Rattle.mc_state.specs.Known.{Test, Tells}
use Rattle.mc_cover.specs.Guessed.{by_summary}
use Rattle.mc_cover.specs.Search.Setting.{is_unused}
use Rattle.mc_find_view.proofs.guess.edges.summary.Given as goal

abbrev pub invariant-loop-entry : goal.invariant-loop-entry
invariant-loop-entry l =
    (know : Test) → Tells know l.state
    → by_summary know l.pred l.at (filter (is_unused l.used) l.state.graph.edges) ≡ by_summary know l.pred l.at (filter (is_unused l.used) (drop l.entry-index l.state.graph.edges))
