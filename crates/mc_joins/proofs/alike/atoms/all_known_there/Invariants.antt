use Rattle.std.proofs.Common.{◌≡◌, ◌<◌, ℕ, Some, slice_get}
use Rattle.mc_base.specs.declared.plain.Atom.{Atom}
use Rattle.mc_base.specs.Atoms.{moved_atom}
use Rattle.mc_state.specs.Facts.{Derives}
use Rattle.mc_pure_ops.specs.Renaming.Images.{image}
use Rattle.mc_joins.proofs.alike.atoms.all_known_there.Given as goal

abbrev pub invariant-loop-atom : goal.invariant-loop-atom
invariant-loop-atom l = (place : ℕ) → place < l.atom-index → (a : Atom) → slice_get l.state.atoms place ≡ Some a → Derives l.other (moved_atom (image l.renaming) a)
