use Rattle.std.proofs.Common.{◌≡◌, drop}
use Rattle.mc_state.specs.Guess.{give_all}
use Rattle.mc_find_view.proofs.guess.names.take_guess.Given as goal

abbrev pub invariant-loop-place : goal.invariant-loop-place
invariant-loop-place l = give_all l.fn.names.items l.args l.guess ≡ give_all l.names.items (drop l.place l.args) (drop l.place l.guess)
