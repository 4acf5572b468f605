-- Disequalities, moved to the least nodes of classes.
use Rattle.std.specs.Prelude.{◌≡◌, ◌≢◌, ℕ, ◌<◌, ℤ, pos, ◌+ℤ◌, ◌-ℤ◌, neg_ℤ, ◌<ℤ◌, ◌⊎◌, List, Some, Option, Bool, true, false, slice_get}
use Rattle.mc_base.specs.declared.ids.NodeId.{NodeId}
use Rattle.mc_base.specs.declared.plain.Atom.{Atom}
use Rattle.mc_base.specs.declared.plain.Atom.TheVariants.{Eq, Ne, In}
use Rattle.mc_pure.specs.Pure.{Pure, IsNode}
use Rattle.mc_pure.specs.Derived.{Follows, HasRange}
use Rattle.mc_pure.specs.declared.classes.ClassPlace.{ClassPlace}
use Rattle.mc_pure_ops.specs.declared.canon.gaps.Gap.{Gap}
use Rattle.mc_pure_ops.specs.Canon.Left.{IsPlace}

-- the ranges of the nodes, the second moved by the number, do not meet
pub record AreApart (p : Pure) (g : Gap) : Type 0 where
  pub lo : ℤ
  pub hi : ℤ
  pub m : ℤ
  pub k : ℤ
  pub left_range : HasRange p g.left lo hi
  pub right_range : HasRange p g.right m k
  pub apart : (hi <ℤ (m +ℤ g.by)) ⊎ ((k +ℤ g.by) <ℤ lo)

-- two nodes at different places of a list
pub record ArePair (nodes : List NodeId) (i j : ℕ) (x y : NodeId) : Type 0 where
  pub differ : i ≢ j
  pub first : slice_get nodes i ≡ Some x
  pub second : slice_get nodes j ≡ Some y

-- the disequality x != y + d, moved to the nodes of the gap
pub record IsMoved (p : Pure) (x y : NodeId) (d : ℤ) (g : Gap) : Type 0 where
  pub e : ℤ
  pub h : ℤ
  pub left_equal : Follows p (Eq x g.left e)
  pub right_equal : Follows p (Eq y g.right h)
  pub by_is : g.by ≡ (h +ℤ d) -ℤ e

-- the start of a block at one place and that at another give it
abbrev pub StartGives : Pure → List NodeId → Gap → ℕ → Type 0
StartGives p starts g i = (j : ℕ) × (x y : NodeId) × ArePair starts i j x y × IsMoved p x y (pos 0) g

-- starts of blocks at different places give it
abbrev pub StartsGive : Pure → List NodeId → Gap → Type 0
StartsGive p starts g = (i : ℕ) × StartGives p starts g i

-- the nodes are there
abbrev pub AreNodes : Pure → List NodeId → Type 0
AreNodes p nodes = (i : ℕ) (n : NodeId) → slice_get nodes i ≡ Some n → IsNode p.kinds n

-- it follows from ranges or from starts of blocks
abbrev pub IsPlain : Pure → List NodeId → Gap → Type 0
IsPlain p starts g = AreApart p g ⊎ StartsGive p starts g

-- as it is written: between two classes the higher first, inside one with a positive number
abbrev pub IsTurned : (inside : Bool) → Gap → Type 0
IsTurned true g = (g.left ≡ g.right) × (pos 0 <ℤ g.by)
IsTurned false g = g.right.0 < g.left.0

-- the atom of a gap
abbrev pub gap_atom : Gap → Atom
gap_atom g = Ne g.left g.right g.by

-- the gap turned round
abbrev pub turned_gap : Gap → Gap
turned_gap g = record { left = g.right; right = g.left; by = neg_ℤ g.by }

-- what is written of a gap that is turned as it is
pub record Shows (p : Pure) (starts : List NodeId) (inside : Bool) (g : Gap) (f : Atom) : Type 0 where
  pub is : f ≡ gap_atom g
  pub turned : IsTurned inside g
  pub new : IsPlain p starts g → ⊥

-- what is written of a gap, either way round
abbrev pub Gives : Pure → List NodeId → (inside : Bool) → Gap → Atom → Type 0
Gives p starts inside g f = Shows p starts inside g f ⊎ Shows p starts inside (turned_gap g) f

-- the gap between the least nodes that a disequality gives
pub record GapOf (p : Pure) (lost : Option NodeId) (x y : NodeId) (d : ℤ) (g : Gap) : Type 0 where
  pub left_place : ClassPlace
  pub right_place : ClassPlace
  pub left_is : IsPlace p lost x left_place
  pub right_is : IsPlace p lost y right_place
  pub left : g.left ≡ left_place.least
  pub right : g.right ≡ right_place.least
  pub by : g.by ≡ (right_place.offset +ℤ d) -ℤ left_place.offset

-- what is written of a disequality
abbrev pub PairGives : Pure → Option NodeId → List NodeId → (inside : Bool) → (x y : NodeId) → ℤ → Atom → Type 0
PairGives p lost starts inside x y d f = (g : Gap) × GapOf p lost x y d g × Gives p starts inside g f

-- what is written of an atom
abbrev pub AtomGives : Pure → Option NodeId → List NodeId → (inside : Bool) → Atom → Atom → Type 0
AtomGives p lost starts inside (Ne x y d) f = PairGives p lost starts inside x y d f
AtomGives p lost starts inside (Eq x y d) f = ⊥
AtomGives p lost starts inside (In x lo hi) f = ⊥

-- what is written of the written atoms
abbrev pub WrittenGives : Pure → Option NodeId → List NodeId → (inside : Bool) → Atom → Type 0
WrittenGives p lost starts inside f = (w : Atom) × ((i : ℕ) × (slice_get p.written i ≡ Some w)) × AtomGives p lost starts inside w f

-- what is written of two nodes of a list, which differ
abbrev pub PairsGiveAt : Pure → Option NodeId → List NodeId → (inside : Bool) → List NodeId → (i j : ℕ) → Atom → Type 0
PairsGiveAt p lost starts inside nodes i j f = (x y : NodeId) × ArePair nodes i j x y × PairGives p lost starts inside x y (pos 0) f

-- what is written of one node of a list and the others, which differ
abbrev pub PairsGiveOf : Pure → Option NodeId → List NodeId → (inside : Bool) → List NodeId → ℕ → Atom → Type 0
PairsGiveOf p lost starts inside nodes i f = (j : ℕ) × PairsGiveAt p lost starts inside nodes i j f

-- what is written of nodes that all differ
abbrev pub PairsGive : Pure → Option NodeId → List NodeId → (inside : Bool) → List NodeId → Atom → Type 0
PairsGive p lost starts inside nodes f = (i : ℕ) × PairsGiveOf p lost starts inside nodes i f

-- what is written of the atoms and the nodes
abbrev pub DifferenceLeft : Pure → Option NodeId → List NodeId → (inside : Bool) → List NodeId → Atom → Type 0
DifferenceLeft p lost starts inside nodes f = WrittenGives p lost starts inside f ⊎ PairsGive p lost starts inside nodes f

-- the places say that a disequality is a gap, moved
pub record MovedPlaces (first second left right : ClassPlace) (d by : ℤ) : Type 0 where
  pub left_is : first.least ≡ left.least
  pub right_is : second.least ≡ right.least
  pub by_is : by +ℤ (first.offset -ℤ left.offset) ≡ (second.offset -ℤ right.offset) +ℤ d
