use Rattle.std.proofs.Common.{◌≡◌, drop}
use Rattle.mc_state.specs.Guess.{by_atoms}
use Rattle.mc_find_view.proofs.guess.names.settle_once.Given as goal

abbrev pub invariant-loop-atom : goal.invariant-loop-atom
invariant-loop-atom l = by_atoms l.fn.names.items l.atoms ≡ by_atoms l.names.items (drop l.atom-index l.atoms)
