use Rattle.std.proofs.Common.{◌≡◌, ◌<◌, ℕ, Some, slice_get}
use Rattle.mc_base.specs.declared.plain.Atom.{Atom}
use Rattle.mc_pure.specs.Pure.{IsWellFormed}
use Rattle.mc_state_io.proofs.raw.fitting.all_atoms_fit.Given as goal

abbrev pub invariant-loop-atom : goal.invariant-loop-atom
invariant-loop-atom l = (place : ℕ) → place < l.atom-index → (a : Atom) → slice_get l.atoms place ≡ Some a → IsWellFormed l.state.kinds a
