use Rattle.std.proofs.Common.{◌≡◌, drop}
use Rattle.mc_state.specs.Known.{Test, Tells}
use Rattle.mc_cover.specs.Guessed.{first_block}
use Rattle.mc_cover.specs.Search.Setting.{free_edges}
use Rattle.mc_find_view.proofs.guess.rules.first_block.Given as goal

abbrev pub invariant-loop-rule : goal.invariant-loop-rule
invariant-loop-rule l =
    (know : Test) → Tells know l.state → first_block know l.at (free_edges l.state l.used) l.rules ≡ first_block know l.at (free_edges l.state l.used) (drop l.rule-index l.rules)
