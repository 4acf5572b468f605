use Rattle.std.proofs.Common.{◌≡◌, drop}
use Rattle.std.specs.List.{AllByRecursion}
use Rattle.mc_pure.specs.Pure.{IsWellFormed}
use Rattle.mc_state.specs.State.{with_atoms}
use Rattle.mc_symbolic.proofs.changes.batches.assume_all.Given as goal

abbrev pub invariant-loop-atom : goal.invariant-loop-atom
invariant-loop-atom l =
    (with_atoms l.s (drop l.atom-index l.atoms) ≡ with_atoms l.fn.s l.atoms)
    × AllByRecursion (IsWellFormed l.s.kinds) (drop l.atom-index l.atoms)
