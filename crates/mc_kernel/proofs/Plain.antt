-- States whose atoms are true by some numbers are not false, and short lists.
use Rattle.std.proofs.Common.{◌≡◌, ◌<◌, ℕ, zero, suc, List, [], ◌∷◌, arith, pos}
use Rattle.std.specs.Prelude.{Contains, slice_index_or}
use Rattle.std.specs.List.{AllByRecursion}
use Rattle.mc_base.specs.declared.ids.NodeId.{NodeId}
use Rattle.mc_base.specs.declared.plain.Kind.{Kind}
use Rattle.mc_base.specs.declared.plain.Atom.{Atom}
use Rattle.mc_base.specs.Atoms.{IsTrueAtom}
use Rattle.mc_base.specs.Kinds.{InKind}
use Rattle.mc_base.specs.Nodes.{Valuation}
use Rattle.mc_pure.specs.Pure.{Pure, Kinds}
use Rattle.mc_pure.specs.Derived.{IsFalse}
use Rattle.mc_pure.specs.Laws.{IsTrue, TrueIsNotFalse}
use Rattle.mc_kernel.proofs.ShownLemmas.Numbers.{numbers_fit}

-- what is known where no block is
abbrev pub known_of : Kinds → List Atom → Pure
known_of kinds atoms = record { kinds = kinds; written = atoms; starts = [] }

pub base_true : (v : Valuation) (kinds : Kinds) (atoms : List Atom) → v 0 ≡ pos 0 → AllByRecursion (λ (k : NodeId × Kind). InKind k.1 (v k.0.0)) kinds → AllByRecursion (IsTrueAtom v) atoms
    → IsTrue v (known_of kinds atoms)
base_true v kinds atoms null kinds_are atoms_are = numbers_fit v (known_of kinds atoms) null kinds_are atoms_are tt (omega arith)

pub not_false : (v : Valuation) (kinds : Kinds) (atoms : List Atom) → v 0 ≡ pos 0 → AllByRecursion (λ (k : NodeId × Kind). InKind k.1 (v k.0.0)) kinds → AllByRecursion (IsTrueAtom v) atoms
    → TrueIsNotFalse → IsFalse (known_of kinds atoms) → ⊥
not_false v kinds atoms null kinds_are atoms_are law wrong =
    law (known_of kinds atoms) v (base_true v kinds atoms null kinds_are atoms_are) wrong

-- ---- short lists

-- a list of one contains nothing else
pub contains_one : {X : Type 0} (x y : X) → Contains (x ∷ []) y → x ≡ y
contains_one x y (k, less, is) = at k less is
  where
    at : (k : ℕ) → k < 1 → slice_index_or (x ∷ []) k y ≡ y → x ≡ y
    at zero less is = is
    at (suc k) less is = absurd (omega arith)
