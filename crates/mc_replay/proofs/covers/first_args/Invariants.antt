use Rattle.std.proofs.Common.{◌≡◌, drop}
use Rattle.std.specs.List.{filter}
use Rattle.mc_state.specs.Known.{Test, Tells}
use Rattle.mc_state.specs.Terms.{plain}
use Rattle.mc_cover.specs.Guessed.{first_edge, summary_of}
use Rattle.mc_cover.specs.Search.Setting.{is_unused}
use Rattle.mc_replay.proofs.covers.first_args.Given as goal

abbrev pub invariant-loop-entry : goal.invariant-loop-entry
invariant-loop-entry l =
    (know : Test) → Tells know l.state
    → first_edge (summary_of know l.pred (plain l.node)) (filter (is_unused l.used) l.state.graph.edges)
    ≡ first_edge (summary_of know l.pred (plain l.node)) (filter (is_unused l.used) (drop l.entry-index l.state.graph.edges))
