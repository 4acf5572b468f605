-- What is known on both sides of a join.
use Rattle.std.specs.Prelude.{◌≡◌, ◌≢◌, ◌↔◌, ◌⊎◌, ◌≤◌, ℕ, ℤ, pos, List, [], Some, slice_get}
use Rattle.std.specs.Int.{int_max, int_min}
use Rattle.mc_base.specs.declared.ids.NodeId.{NodeId}
use Rattle.mc_base.specs.declared.plain.Kind.{Kind}
use Rattle.mc_base.specs.declared.plain.Kind.TheVariants.{Int, Ptr}
use Rattle.mc_base.specs.declared.plain.Atom.{Atom}
use Rattle.mc_base.specs.declared.plain.Atom.TheVariants.{Eq, Ne, In}
use Rattle.mc_base.specs.Nodes.{null}
use Rattle.mc_base.specs.Ranges.Thresholds.{WidensUp, WidensDown}
use Rattle.mc_pure.specs.Pure.{Kinds, Pure, HasKind, IsWellFormed, kind_of}
use Rattle.mc_pure.specs.Nodes.{RiseFrom}
use Rattle.mc_pure.specs.Derived.{Follows, HasRange}
use Rattle.mc_pure.specs.Canonical.{IsCanonical}
use Rattle.mc_pure_ops.specs.Canon.Order.{Among}

-- a node of the left side and one of the right for each node of the result, by number
abbrev pub Pairs : Type 0
Pairs = List (NodeId × NodeId)

-- the node stands for these two
abbrev pub StandsFor : Pairs → NodeId → NodeId → NodeId → Type 0
StandsFor pairs n l r = slice_get pairs n.0 ≡ Some (l, r)

-- what is joined: the two sides, with their canonical lists, and how ranges are widened
pub record Sides : Type 0 where
  pub left : Pure
  pub right : Pure
  pub pairs : Pairs
  pub left_list : List Atom
  pub right_list : List Atom
  pub round : ℕ
  pub thresholds : List ℤ

-- the two nodes are there and of one kind
abbrev pub HaveOneKind : Pure → Pure → NodeId → NodeId → Type 0
HaveOneKind left right l r = (kind : Kind) × HasKind left.kinds kind l × HasKind right.kinds kind r

-- so are those of each pair, and the first pair is node 0 on both sides
abbrev pub AreJoinable : Pure → Pure → Pairs → Type 0
AreJoinable left right pairs =
    StandsFor pairs null null null × ((n l r : NodeId) → StandsFor pairs n l r → HaveOneKind left right l r)

-- the kind of a pair is that of a node of it other than 0
abbrev pub IsKindOfPair : Pure → Pure → NodeId → NodeId → Kind → Type 0
IsKindOfPair left right l r kind =
    ((l ≢ null) × (kind_of left.kinds l ≡ Some kind)) ⊎ ((r ≢ null) × (kind_of right.kinds r ≡ Some kind))

-- the pairs but the first, numbered by their places, each with its kind
pub record AreJointKinds (left right : Pure) (pairs : Pairs) (kinds : Kinds) : Type 0 where
  pub rise : RiseFrom 1 kinds
  pub exact : (n : NodeId) (kind : Kind)
      → (kind_of kinds n ≡ Some kind)
      ↔ ((n ≢ null) × ((l r : NodeId) × StandsFor pairs n l r × IsKindOfPair left right l r kind))

-- ranges of numbers are widened from the third pass on
abbrev pub IsLate : Kind → ℕ → Type 0
IsLate Int round = 3 ≤ round
IsLate Ptr round = ⊥

-- a range is the hull of two, or the left one widened to that by the thresholds
pub record IsJointRange (kind : Kind) (round : ℕ) (thresholds : List ℤ) (l h m k lo hi : ℤ) : Type 0 where
  pub hull : (IsLate kind round → ⊥) → (lo ≡ int_min l m) × (hi ≡ int_max h k)
  pub wide : IsLate kind round → WidensDown thresholds l (int_min l m) lo × WidensUp thresholds h (int_max h k) hi

-- an atom of a join: an equality entailed on both sides; the range of a pair; a disequality entailed on both sides
-- that has offset 0 or is on the canonical list of one
abbrev pub IsOfBoth : Sides → Kinds → Atom → Type 0
IsOfBoth s kinds (Eq a b c) =
    (l r m k : NodeId) × StandsFor s.pairs a l r × StandsFor s.pairs b m k
    × Follows s.left (Eq l m c) × Follows s.right (Eq r k c)
IsOfBoth s kinds (Ne a b c) =
    (l r m k : NodeId) × StandsFor s.pairs a l r × StandsFor s.pairs b m k
    × Follows s.left (Ne l m c) × Follows s.right (Ne r k c)
    × ((c ≡ pos 0) ⊎ (Among s.left_list (Ne l m c) ⊎ Among s.right_list (Ne r k c)))
IsOfBoth s kinds (In n lo hi) =
    (kind : Kind) × (kind_of kinds n ≡ Some kind) × (l r : NodeId) × StandsFor s.pairs n l r
    × (x h y k : ℤ) × HasRange s.left l x h × HasRange s.right r y k
    × IsJointRange kind s.round s.thresholds x h y k lo hi

-- it is between nodes of one kind
abbrev pub IsJoint : Sides → Kinds → Atom → Type 0
IsJoint s kinds f = IsWellFormed kinds f × IsOfBoth s kinds f

-- these two sides
abbrev pub sides : Pure → Pure → Pairs → (left_list right_list : List Atom) → ℕ → List ℤ → Sides
sides left right pairs left_list right_list round thresholds =
    record {
      left = left;
      right = right;
      pairs = pairs;
      left_list = left_list;
      right_list = right_list;
      round = round;
      thresholds = thresholds;
    }

-- the atoms of a join: each written one is one of them, and all of them follow
pub record IsJoin (left right : Pure) (pairs : Pairs) (round : ℕ) (thresholds : List ℤ) (joint : Pure)
    : Type 0 where
  pub left_list : List Atom
  pub right_list : List Atom
  pub left_canonical : IsCanonical left left_list
  pub right_canonical : IsCanonical right right_list
  pub kinds : AreJointKinds left right pairs joint.kinds
  pub starts : joint.starts ≡ []
  pub sound : (f : Atom) → Among joint.written f
      → IsJoint (sides left right pairs left_list right_list round thresholds) joint.kinds f
  pub complete : (f : Atom)
      → IsJoint (sides left right pairs left_list right_list round thresholds) joint.kinds f
      → Follows joint f
