-- Nodes with their kinds, ascending.
use Rattle.std.specs.Prelude.{◌≡◌, ℕ, suc, ◌<◌, ◌≤◌, List, [], ◌∷◌, Some, slice_get, cond, nat_lt}
use Rattle.mc_base.specs.declared.ids.NodeId.{NodeId}
use Rattle.mc_base.specs.declared.plain.Kind.{Kind}
use Rattle.mc_pure.specs.Pure.{Kinds}

-- each node's number is at least this one, and above that of the node before it
abbrev pub RiseFrom : ℕ → Kinds → Type 0
RiseFrom low [] = Unit {0}
RiseFrom low (k ∷ kinds) = (low ≤ k.0.0) × RiseFrom (suc k.0.0) kinds

-- the kinds with one more node, in its place
abbrev pub with_kind : Kinds → NodeId → Kind → Kinds
with_kind [] n kind = (n, kind) ∷ []
with_kind (k ∷ kinds) n kind = cond (nat_lt n.0 k.0.0) ((n, kind) ∷ k ∷ kinds) (k ∷ with_kind kinds n kind)

-- each node comes before all that follow it
abbrev pub DoRise : List NodeId → Type 0
DoRise nodes = (i j : ℕ) (a b : NodeId) → i < j → slice_get nodes i ≡ Some a → slice_get nodes j ≡ Some b → a.0 < b.0

-- the place of a node, or where it belongs
abbrev pub IsPlace : List NodeId → NodeId → ℕ → Type 0
IsPlace nodes n place =
    ((i : ℕ) (a : NodeId) → i < place → slice_get nodes i ≡ Some a → a.0 < n.0)
    × ((i : ℕ) (a : NodeId) → place ≤ i → slice_get nodes i ≡ Some a → n.0 ≤ a.0)
