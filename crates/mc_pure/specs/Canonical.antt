-- The canonical list of atoms.
use Rattle.std.specs.Prelude.{◌≡◌, ◌≢◌, ◌↔◌, ◌<◌, ◌≤◌, ℤ, pos, ◌<ℤ◌, ◌⊎◌, List, [], ◌∷◌, ◌++◌, Contains, Some}
use Rattle.mc_base.specs.declared.ids.NodeId.{NodeId}
use Rattle.mc_base.specs.declared.plain.Kind.{Kind}
use Rattle.mc_base.specs.declared.plain.Atom.{Atom}
use Rattle.mc_base.specs.declared.plain.Atom.TheVariants.{Eq, Ne, In}
use Rattle.mc_base.specs.Nodes.{null}
use Rattle.mc_pure.specs.Pure.{Pure, IsNode, kind_of, low_of, high_of}
use Rattle.mc_pure.specs.Derived.{Follows, IsFalse, HasRange}

-- the node is the least of those that are it and a number more
abbrev pub IsLeast : Pure → NodeId → Type 0
IsLeast p b = IsNode p.kinds b × ((m : NodeId) (c : ℤ) → Follows p (Eq b m c) → b.0 ≤ m.0)

-- the range of a node other than node 0, where it is narrower than its kind's
abbrev pub IsRangeAtom : Pure → Atom → Type 0
IsRangeAtom p (In n lo hi) =
    (kind : Kind) × (n ≢ null) × (kind_of p.kinds n ≡ Some kind) × HasRange p n lo hi × ((low_of kind <ℤ lo) ⊎ (hi <ℤ high_of kind))
IsRangeAtom p (Eq a b c) = ⊥
IsRangeAtom p (Ne a b c) = ⊥

-- the equality of a node with the least of its class, which is neither the node nor node 0
abbrev pub IsClassAtom : Pure → Atom → Type 0
IsClassAtom p (Eq a b c) = (a ≢ b) × (b ≢ null) × IsLeast p b × Follows p (Eq a b c)
IsClassAtom p (Ne a b c) = ⊥
IsClassAtom p (In n lo hi) = ⊥

-- what is known without disequalities: these ranges and equalities, the kinds and the blocks
abbrev pub plainly : Pure → List Atom → Pure
plainly p atoms = record { kinds = p.kinds; written = atoms; starts = p.starts }

-- a disequality of the least nodes of two classes that does not follow from those
abbrev pub IsDifference : Pure → Pure → Atom → Type 0
IsDifference p plain (Ne i j c) = IsLeast p i × IsLeast p j × (j.0 < i.0) × Follows p (Ne i j c) × (Follows plain (Ne i j c) → ⊥)
IsDifference p plain (Eq a b c) = ⊥
IsDifference p plain (In n lo hi) = ⊥

-- first by the first node, then by the second, then by the number
abbrev pub ComesBefore : Atom → Atom → Type 0
ComesBefore (Eq a b c) (Eq i j k) = a.0 < i.0
ComesBefore (Ne a b c) (Ne i j k) = (a.0 < i.0) ⊎ ((a.0 ≡ i.0) × ((b.0 < j.0) ⊎ ((b.0 ≡ j.0) × (c <ℤ k))))
ComesBefore (In a lo hi) (In i m k) = a.0 < i.0
ComesBefore (Eq a b c) (Ne i j k) = ⊥
ComesBefore (Eq a b c) (In i m k) = ⊥
ComesBefore (Ne a b c) (Eq i j k) = ⊥
ComesBefore (Ne a b c) (In i m k) = ⊥
ComesBefore (In a lo hi) (Eq i j k) = ⊥
ComesBefore (In a lo hi) (Ne i j k) = ⊥

-- each comes before the next
abbrev pub AreInOrder : List Atom → Type 0
AreInOrder [] = Unit {0}
AreInOrder (f ∷ []) = Unit {0}
AreInOrder (f ∷ g ∷ fs) = ComesBefore f g × AreInOrder (g ∷ fs)

-- exactly these atoms, in order
pub record AreListed (P : Atom → Type 0) (atoms : List Atom) : Type 0 where
  pub order : AreInOrder atoms
  pub exact : (f : Atom) → Contains atoms f ↔ P f

-- ranges, equalities and then disequalities, each in order
pub record IsListOf (p : Pure) (atoms : List Atom) : Type 0 where
  pub ranges : List Atom
  pub equalities : List Atom
  pub differences : List Atom
  pub together : atoms ≡ ranges ++ (equalities ++ differences)
  pub ranges_listed : AreListed (IsRangeAtom p) ranges
  pub equalities_listed : AreListed (IsClassAtom p) equalities
  pub differences_listed : AreListed (IsDifference p (plainly p (ranges ++ equalities))) differences

-- the canonical list; that of what is false says that node 0 differs from itself
abbrev pub IsCanonical : Pure → List Atom → Type 0
IsCanonical p atoms =
    (IsFalse p × (atoms ≡ Ne null null (pos 0) ∷ [])) ⊎ ((IsFalse p → ⊥) × IsListOf p atoms)
