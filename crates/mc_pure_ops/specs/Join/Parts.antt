-- The parts of a join, pair by pair.
use Rattle.std.specs.Prelude.{◌≡◌, ◌≢◌, ◌<◌, ℕ, ℤ, pos, List, [], Option, Some, None, slice_get, map}
use Rattle.mc_base.specs.declared.ids.NodeId.{NodeId}
use Rattle.mc_base.specs.declared.plain.Kind.{Kind}
use Rattle.mc_base.specs.declared.plain.Atom.{Atom}
use Rattle.mc_base.specs.declared.plain.Atom.TheVariants.{Eq, Ne, In}
use Rattle.mc_base.specs.Nodes.{null}
use Rattle.mc_pure.specs.Pure.{Pure, IsNode, kind_of}
use Rattle.mc_pure.specs.Nodes.{RiseFrom}
use Rattle.mc_pure.specs.Derived.{Follows, HasRange}
use Rattle.mc_pure_ops.specs.declared.join.equalities.Shift.{Shift}
use Rattle.mc_pure_ops.specs.Join.Joint.{Pairs, AreJointKinds, IsKindOfPair, IsJointRange}

-- the node of this number
abbrev pub node : ℕ → NodeId
node i = record { 0 = i }

-- the pairs the other way round
abbrev pub turned : Pairs → Pairs
turned pairs = map (λ p. (p.1, p.0)) pairs

-- the nodes of both sides of each pair are there
abbrev pub AreThere : Pure → Pure → Pairs → Type 0
AreThere left right pairs =
    (i : ℕ) (l r : NodeId) → slice_get pairs i ≡ Some (l, r) → IsNode left.kinds l × IsNode right.kinds r

-- by how much more the first node is
abbrev pub IsDistance : Pure → NodeId → NodeId → Option Shift → Type 0
IsDistance p a b None = (c : ℤ) → Follows p (Eq a b c) → ⊥
IsDistance p a b (Some d) = Follows p (Eq a b d.by) × ((c : ℤ) → Follows p (Eq a b c) → c ≡ d.by)

-- the equality of the pairs at two places
pub record EqualityAt (left right : Pure) (pairs : Pairs) (i j : ℕ) (f : Atom) : Type 0 where
  pub l : NodeId
  pub r : NodeId
  pub m : NodeId
  pub k : NodeId
  pub c : ℤ
  pub first : slice_get pairs i ≡ Some (l, r)
  pub second : slice_get pairs j ≡ Some (m, k)
  pub on_left : Follows left (Eq l m c)
  pub on_right : Follows right (Eq r k c)
  pub is : f ≡ Eq (node i) (node j) c

-- the disequality of the pairs at two places
pub record DifferenceAt (left right : Pure) (pairs : Pairs) (i j : ℕ) (f : Atom) : Type 0 where
  pub l : NodeId
  pub r : NodeId
  pub m : NodeId
  pub k : NodeId
  pub first : slice_get pairs i ≡ Some (l, r)
  pub second : slice_get pairs j ≡ Some (m, k)
  pub on_left : Follows left (Ne l m (pos 0))
  pub on_right : Follows right (Ne r k (pos 0))
  pub is : f ≡ Ne (node i) (node j) (pos 0)

-- a disequality that is listed on one side, of the pairs at two places
pub record ListedAt (other : Pure) (pairs : Pairs) (atom : Atom) (i j : ℕ) (f : Atom) : Type 0 where
  pub l : NodeId
  pub r : NodeId
  pub m : NodeId
  pub k : NodeId
  pub c : ℤ
  pub first : slice_get pairs i ≡ Some (l, r)
  pub second : slice_get pairs j ≡ Some (m, k)
  pub listed : atom ≡ Ne l m c
  pub on_other : Follows other (Ne r k c)
  pub is : f ≡ Ne (node i) (node j) c

-- the range of the pair at a place
pub record RangeAt (left right : Pure) (pairs : Pairs) (round : ℕ) (thresholds : List ℤ) (i : ℕ) (f : Atom)
    : Type 0 where
  pub kind : Kind
  pub l : NodeId
  pub r : NodeId
  pub pair : slice_get pairs i ≡ Some (l, r)
  pub kind_is : IsKindOfPair left right l r kind
  pub x : ℤ
  pub h : ℤ
  pub y : ℤ
  pub k : ℤ
  pub left_range : HasRange left l x h
  pub right_range : HasRange right r y k
  pub lo : ℤ
  pub hi : ℤ
  pub range : IsJointRange kind round thresholds x h y k lo hi
  pub is : f ≡ In (node i) lo hi

-- with one of the first places
abbrev pub Below : (ℕ → Atom → Type 0) → ℕ → Atom → Type 0
Below R n f = (i : ℕ) × (i < n) × R i f

-- with one of the places of a list
abbrev pub AtPlace : {X : Type 0} → (X → Atom → Type 0) → List X → ℕ → Atom → Type 0
AtPlace {X} R xs i f = (x : X) × (slice_get xs i ≡ Some x) × R x f

-- the kind of a pair, where it has one
abbrev pub MayBeKind : Pure → Pure → NodeId → NodeId → Option Kind → Type 0
MayBeKind left right l r None = (kind : Kind) → IsKindOfPair left right l r kind → ⊥
MayBeKind left right l r (Some kind) =
    IsKindOfPair left right l r kind × ((other : Kind) → IsKindOfPair left right l r other → other ≡ kind)

-- the first pairs but the very first, with their kinds, and nothing else
pub record HasFirst (left right : Pure) (pairs : Pairs) (n : ℕ) (p : Pure) : Type 0 where
  pub rise : RiseFrom 1 p.kinds
  pub from : (a : NodeId) (kind : Kind) → kind_of p.kinds a ≡ Some kind
      → (a ≢ null) × (a.0 < n)
      × ((l r : NodeId) × (slice_get pairs a.0 ≡ Some (l, r)) × IsKindOfPair left right l r kind)
  pub done : (a : NodeId) (kind : Kind) (l r : NodeId)
      → a ≢ null → a.0 < n → slice_get pairs a.0 ≡ Some (l, r) → IsKindOfPair left right l r kind
      → kind_of p.kinds a ≡ Some kind
  pub written : p.written ≡ []
  pub starts : p.starts ≡ []

-- the pairs but the very first, with their kinds, and nothing else
pub record HasAll (left right : Pure) (pairs : Pairs) (p : Pure) : Type 0 where
  pub kinds : AreJointKinds left right pairs p.kinds
  pub written : p.written ≡ []
  pub starts : p.starts ≡ []
