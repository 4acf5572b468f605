use Rattle.std.proofs.Common.{◌≡◌, ℕ, ◌<◌, slice_get, Some}
use Rattle.mc_base.specs.declared.plain.Atom.{Atom}
use Rattle.mc_pure.specs.Atoms.{apart_of}
use Rattle.mc_pure.specs.Steps.{MovedAtom}
use Rattle.mc_pure.proofs.ask.is_written.Given as goal

abbrev pub invariant-loop-atom : goal.invariant-loop-atom
invariant-loop-atom l = (k : ℕ) (f : Atom) → k < l.atom-index → slice_get (apart_of l.known.written) k ≡ Some f → MovedAtom l.rows f l.left l.right l.c → ⊥
