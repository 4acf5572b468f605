use Rattle.std.proofs.Common.{◌≡◌, ◌+◌, drop, length}
use Rattle.mc_state.specs.Guess.{begun}
use Rattle.mc_state.specs.Known.{Test, Tells}
use Rattle.mc_cover.specs.Guessed.{guess_at, after_calls}
use Rattle.mc_cover.specs.Search.Setting.{free_edges}
use Rattle.mc_find_view.proofs.guess.guesses.+guess.Given as goal

abbrev pub decreases-given_by_rule : goal.decreases-given_by_rule
decreases-given_by_rule l = l.left + l.left + 1

abbrev pub decreases-guess_at : goal.decreases-guess_at
decreases-guess_at l = l.left + l.left

abbrev pub invariant-given_by_rule-loop-call : goal.invariant-given_by_rule-loop-call
invariant-given_by_rule-loop-call l =
    (know : Test) → Tells know l.state
    → after_calls (guess_at know l.defs l.stop l.left) l.pred (free_edges l.state l.used) l.rule.calls (begun l.rule (length l.def.params) l.fn.at l.contents)
    ≡ after_calls (guess_at know l.defs l.stop l.left) l.pred (free_edges l.state l.used) (drop l.call-index l.rule.calls) l.names.items
