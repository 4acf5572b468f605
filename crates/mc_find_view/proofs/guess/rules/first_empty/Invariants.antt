use Rattle.std.proofs.Common.{◌≡◌, drop}
use Rattle.mc_cover.specs.Guessed.{first_empty}
use Rattle.mc_find_view.proofs.guess.rules.first_empty.Given as goal

abbrev pub invariant-loop-rule : goal.invariant-loop-rule
invariant-loop-rule l = first_empty l.rules ≡ first_empty (drop l.rule-index l.rules)
