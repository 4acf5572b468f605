use Rattle.std.proofs.Common.{◌≡◌, ◌-◌, length}
use Rattle.mc_state.specs.Guess.{by_passes}
use Rattle.mc_find_view.proofs.guess.names.settle.Given as goal

abbrev pub invariant-loop-pass : goal.invariant-loop-pass
invariant-loop-pass l = by_passes (length l.fn.names.items) l.fn.names.items l.atoms ≡ by_passes (length l.fn.names.items - l._pass) l.names.items l.atoms
