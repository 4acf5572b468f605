-- What holds of entailed atoms.
use Rattle.std.specs.Prelude.{◌≡◌, ◌≢◌, ℕ, ℤ, ◌<ℤ◌, Some, slice_get}
use Rattle.mc_base.specs.declared.ids.NodeId.{NodeId}
use Rattle.mc_base.specs.declared.plain.Atom.{Atom}
use Rattle.mc_base.specs.declared.plain.Atom.TheVariants.{In}
use Rattle.mc_base.specs.Atoms.{IsTrueAtom}
use Rattle.mc_base.specs.Nodes.{Valuation, null}
use Rattle.mc_pure.specs.Pure.{Pure, IsNode, Base}
use Rattle.mc_pure.specs.Derived.{Follows, IsFalse, Derived, AreEqual}

-- what is known from the beginning is true by a valuation
abbrev pub IsTrue : Valuation → Pure → Type 0
IsTrue v p = (f : Atom) → Base p f → IsTrueAtom v f

-- then what is entailed is true
abbrev pub DerivedIsTrue : Type 0
DerivedIsTrue = (p : Pure) (v : Valuation) → IsTrue v p → (f : Atom) → Derived p f → IsTrueAtom v f

-- and nothing that can't be true follows
abbrev pub TrueIsNotFalse : Type 0
TrueIsNotFalse = (p : Pure) (v : Valuation) → IsTrue v p → IsFalse p → ⊥

-- what is entailed by less follows from more
abbrev pub FollowsFromMore : Type 0
FollowsFromMore =
    (p q : Pure) → ((n : NodeId) → IsNode p.kinds n → IsNode q.kinds n) → ((f : Atom) → Base p f → Follows q f)
    → (f : Atom) → Follows p f → Follows q f

-- and what is false of less is false of more
abbrev pub FalseFromMore : Type 0
FalseFromMore =
    (p q : Pure) → ((n : NodeId) → IsNode p.kinds n → IsNode q.kinds n) → ((f : Atom) → Base p f → Follows q f)
    → IsFalse p → IsFalse q

-- blocks at equal nodes are false
abbrev pub BlocksAtOneNode : Type 0
BlocksAtOneNode =
    (p : Pure) (i j : ℕ) (a b : NodeId)
    → i ≢ j → slice_get p.starts i ≡ Some a → slice_get p.starts j ≡ Some b → AreEqual p a b → IsFalse p

-- a block at a node that is null is false
abbrev pub BlockAtNull : Type 0
BlockAtNull = (p : Pure) (i : ℕ) (a : NodeId) → slice_get p.starts i ≡ Some a → AreEqual p a null → IsFalse p

-- a written range without a number in it is false
abbrev pub EmptyRange : Type 0
EmptyRange = (p : Pure) (place : ℕ) (n : NodeId) (lo hi : ℤ) → slice_get p.written place ≡ Some (In n lo hi) → hi <ℤ lo → IsFalse p
