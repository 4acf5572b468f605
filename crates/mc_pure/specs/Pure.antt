-- What is known of nodes: their kinds, atoms that are written down, and the nodes at which blocks start.
use Rattle.std.specs.Prelude.{◌≡◌, ◌≢◌, ◌==◌, ◌⊎◌, ℕ, List, [], ◌∷◌, Option, Some, None, ℤ, pos, negsuc, ◌≤ℤ◌, slice_get, if◌then◌else◌}
use Rattle.mc_base.specs.declared.ids.NodeId.{NodeId}
use Rattle.mc_base.specs.declared.plain.Kind.{Kind}
use Rattle.mc_base.specs.declared.plain.Kind.TheVariants.{Int, Ptr}
use Rattle.mc_base.specs.declared.plain.Atom.{Atom}
use Rattle.mc_base.specs.declared.plain.Atom.TheVariants.{Eq, Ne, In}
use Rattle.mc_base.specs.Nodes.{null}

-- the kind of each node but node 0
abbrev pub Kinds : Type 0
Kinds = List (NodeId × Kind)

-- the nodes with their kinds, the written atoms in order, and the starts of blocks, each as often as a block starts there
pub record Pure : Type 0 where
  pub kinds : Kinds
  pub written : List Atom
  pub starts : List NodeId

-- the kind of a node other than node 0, where it is there
abbrev pub kind_of : Kinds → NodeId → Option Kind
kind_of [] n = None
kind_of (k ∷ kinds) n = if k.0.0 == n.0 then Some k.1 else kind_of kinds n

-- the node is of the kind; node 0 is of every kind
abbrev pub HasKind : Kinds → Kind → NodeId → Type 0
HasKind kinds kind n = (n ≡ null) ⊎ (kind_of kinds n ≡ Some kind)

-- the node is there
abbrev pub IsNode : Kinds → NodeId → Type 0
IsNode kinds n = (kind : Kind) × HasKind kinds kind n

-- the nodes are of one kind
abbrev pub AreOfOneKind : Kinds → NodeId → NodeId → Type 0
AreOfOneKind kinds a b = (kind : Kind) × HasKind kinds kind a × HasKind kinds kind b

-- offsets go from -(2^62 + 2^32) to 2^62 + 2^32
abbrev pub IsOffset : ℤ → Type 0
IsOffset c = (negsuc 4611686022722355199 ≤ℤ c) × (c ≤ℤ pos 4611686022722355200)

-- ends of ranges go from -2^62 to 2^62
abbrev pub IsBound : ℤ → Type 0
IsBound c = (negsuc 4611686018427387903 ≤ℤ c) × (c ≤ℤ pos 4611686018427387904)

-- an atom that may be written: of nodes that are there, two of one kind, with numbers in their bounds
abbrev pub IsWellFormed : Kinds → Atom → Type 0
IsWellFormed kinds (Eq a b c) = AreOfOneKind kinds a b × IsOffset c
IsWellFormed kinds (Ne a b c) = AreOfOneKind kinds a b × IsOffset c
IsWellFormed kinds (In a lo hi) = IsNode kinds a × IsBound lo × IsBound hi

-- the least and the greatest number of a kind
abbrev pub low_of : Kind → ℤ
low_of Int = negsuc 2147483647
low_of Ptr = pos 0

-- the greatest number of a kind
abbrev pub high_of : Kind → ℤ
high_of Int = pos 2147483647
high_of Ptr = pos 4611686018427387903

-- the node lies in the range of a kind
abbrev pub kind_atom : NodeId → Kind → Atom
kind_atom n kind = In n (low_of kind) (high_of kind)

-- the node is an address
abbrev pub address_atom : NodeId → Atom
address_atom n = In n (pos 1) (pos 4611686018427387903)

-- what is known from the beginning
pub data Base (p : Pure) : Atom → Type 0 where
  -- the written atoms
  written : {f : Atom} (place : ℕ) → slice_get p.written place ≡ Some f → Base p f
  -- node 0 is zero
  zero : Base p (In null (pos 0) (pos 0))
  -- each node lies in the range of its kind
  kind : {n : NodeId} {k : Kind} (place : ℕ) → slice_get p.kinds place ≡ Some (n, k) → Base p (kind_atom n k)
  -- each block starts at an address
  block : {a : NodeId} (place : ℕ) → slice_get p.starts place ≡ Some a → Base p (address_atom a)
  -- two blocks start at different addresses
  apart : {a b : NodeId} (i j : ℕ) → i ≢ j → slice_get p.starts i ≡ Some a → slice_get p.starts j ≡ Some b → Base p (Ne a b (pos 0))
