-- The nodes that are left where one is left out, and what is written of each.
use Rattle.std.specs.Prelude.{◌≡◌, ◌≢◌, ℕ, ◌≤◌, ℤ, ◌⊎◌, List, Some, None, Option, slice_get}
use Rattle.mc_base.specs.declared.ids.NodeId.{NodeId}
use Rattle.mc_base.specs.declared.plain.Atom.{Atom}
use Rattle.mc_base.specs.declared.plain.Atom.TheVariants.{Eq, Ne, In}
use Rattle.mc_base.specs.Nodes.{null}
use Rattle.mc_pure.specs.Pure.{Pure, IsNode}
use Rattle.mc_pure.specs.Derived.{Follows}
use Rattle.mc_pure.specs.Rows.{Over}
use Rattle.mc_pure.specs.Canonical.{IsLeast, IsRangeAtom}
use Rattle.mc_pure.specs.declared.classes.ClassPlace.{ClassPlace}

-- the node is not the one that is left out
abbrev pub IsLeft : Option NodeId → NodeId → Type 0
IsLeft None n = Unit {0}
IsLeft (Some lost) n = n ≢ lost

-- the least of the nodes that are left among those that are it and a number more
pub record IsLeastLeft (p : Pure) (lost : Option NodeId) (b : NodeId) : Type 0 where
  pub node : IsNode p.kinds b
  pub left : IsLeft lost b
  pub least : (m : NodeId) (c : ℤ) → IsLeft lost m → Follows p (Eq b m c) → b.0 ≤ m.0

-- a node and the least that is left of its class
pub record IsPlace (p : Pure) (lost : Option NodeId) (n : NodeId) (place : ClassPlace) : Type 0 where
  pub least : IsLeastLeft p lost place.least
  pub equal : Follows p (Eq n place.least place.offset)

-- finds that place, or no node of the class is left
abbrev pub FindsPlace : Pure → Option NodeId → NodeId → Option ClassPlace → Type 0
FindsPlace p lost n None = (place : ClassPlace) → IsPlace p lost n place → ⊥
FindsPlace p lost n (Some place) = IsPlace p lost n place

-- where a class's least node is left out, what is left of it: nothing, or the least of what is left
abbrev pub IsHeir : Pure → NodeId → Option ClassPlace → Type 0
IsHeir p lost None = (m : NodeId) (c : ℤ) → Follows p (Eq m lost c) → m ≡ lost
IsHeir p lost (Some heir) = IsLeastLeft p (Some lost) heir.least × Follows p (Eq heir.least lost heir.offset)

-- what is known of the node that is left out
abbrev pub IsLeftOut : Pure → Option NodeId → Option ClassPlace → Type 0
IsLeftOut p None heir = Unit {0}
IsLeftOut p (Some lost) heir = IsNode p.kinds lost × (lost ≢ null) × (IsLeast p lost → IsHeir p lost heir)

-- the first node of an atom
abbrev pub first_node : Atom → NodeId
first_node (Eq a b c) = a
first_node (Ne a b c) = a
first_node (In a lo hi) = a

-- the atom names nodes that are left alone
abbrev pub LeavesOut : Option NodeId → Atom → Type 0
LeavesOut lost f = Over (λ n. IsLeft lost n) f

-- the range of a node that is left, where it is narrower than its kind's
abbrev pub IsRangeLeft : Pure → Option NodeId → Atom → Type 0
IsRangeLeft p lost f = IsRangeAtom p f × LeavesOut lost f

-- the equality of a node with the least that is left of its class, which is neither the node nor node 0
abbrev pub IsClassLeft : Pure → Option NodeId → Atom → Type 0
IsClassLeft p lost (Eq a b c) = (a ≢ b) × (b ≢ null) × IsNode p.kinds a × IsLeft lost a × IsLeastLeft p lost b × Follows p (Eq a b c)
IsClassLeft p lost (Ne a b c) = ⊥
IsClassLeft p lost (In n lo hi) = ⊥

-- such an atom of one node
abbrev pub OfNode : (Atom → Type 0) → NodeId → Atom → Type 0
OfNode P n f = P f × (first_node f ≡ n)

-- such an atom of some of the nodes
abbrev pub OfNodes : (Atom → Type 0) → List NodeId → Atom → Type 0
OfNodes P nodes f = (n : NodeId) × ((i : ℕ) × (slice_get nodes i ≡ Some n)) × OfNode P n f
