use Rattle.std.proofs.Common.{◌≡◌, ◌++◌, ◌+◌, ◌-◌}
use Rattle.mc_state.specs.Guess.{parameters_of}
use Rattle.mc_find_view.proofs.guess.names.taken_by_parameters.Given as goal

abbrev pub invariant-loop-place : goal.invariant-loop-place
invariant-loop-place l = parameters_of l.names 1 l.count ≡ l.terms.items ++ parameters_of l.names (1 + l.place) (l.count - l.place)
