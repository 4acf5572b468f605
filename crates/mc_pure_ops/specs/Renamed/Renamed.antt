-- What is known of nodes, with other nodes in their places.
use Rattle.std.specs.Prelude.{◌≡◌, ◌≢◌, ◌==◌, ◌↔◌, ◌⊎◌, ◌<◌, ℕ, List, [], ◌++◌, Some, map, slice_get, if◌then◌else◌}
use Rattle.mc_base.specs.declared.ids.NodeId.{NodeId}
use Rattle.mc_base.specs.declared.plain.Kind.{Kind}
use Rattle.mc_base.specs.declared.plain.Atom.{Atom}
use Rattle.mc_base.specs.Nodes.{null, moved}
use Rattle.mc_base.specs.Atoms.{moved_atom}
use Rattle.mc_pure.specs.Pure.{Kinds, Pure, IsNode, kind_of}
use Rattle.mc_pure.specs.Known.{with_node}
use Rattle.mc_pure.specs.Nodes.{RiseFrom}
use Rattle.mc_pure.specs.Whole.{kinds_without}

-- other nodes in place of its own; the kinds of those are given
abbrev pub renamed : (ℕ → ℕ) → Kinds → Pure → Pure
renamed f kinds p = record { kinds = kinds; written = map (moved_atom f) p.written; starts = map (moved f) p.starts }

-- nodes other than 0 with one image other than 0 are of one kind
abbrev pub IsOneKind : (ℕ → ℕ) → Kinds → Type 0
IsOneKind f kinds =
    (m n : NodeId) (k l : Kind) → kind_of kinds m ≡ Some k → kind_of kinds n ≡ Some l
    → moved f m ≡ moved f n → moved f m ≢ null → k ≡ l

-- the nodes may be renamed so: node 0 stays
abbrev pub CanRename : (ℕ → ℕ) → Kinds → Type 0
CanRename f kinds = (f 0 ≡ 0) × IsOneKind f kinds

-- the node is not there with another kind
abbrev pub HasNoOther : Kinds → NodeId → Kind → Type 0
HasNoOther kinds n kind = (other : Kind) → kind_of kinds n ≡ Some other → other ≡ kind

-- a node of this kind has the image
abbrev pub IsImage : (ℕ → ℕ) → Kinds → NodeId → Kind → Type 0
IsImage f kinds n kind = (m : NodeId) × (kind_of kinds m ≡ Some kind) × (moved f m ≡ n)

-- the images other than 0, ascending, each with the kind of the nodes that have it
pub record AreImageKinds (f : ℕ → ℕ) (kinds images : Kinds) : Type 0 where
  pub rise : RiseFrom 1 images
  pub exact : (n : NodeId) (kind : Kind) → (kind_of images n ≡ Some kind) ↔ ((n ≢ null) × IsImage f kinds n kind)

-- all that is known, of the images
abbrev pub IsRenamed : (ℕ → ℕ) → Pure → Pure → Type 0
IsRenamed f p q = (kinds : Kinds) × AreImageKinds f p.kinds kinds × (q ≡ renamed f kinds p)

-- one number in place of another
abbrev pub instead : ℕ → ℕ → ℕ → ℕ
instead keep gone n = if n == gone then keep else n

-- one node in place of another everywhere
abbrev pub merged : NodeId → NodeId → Pure → Pure
merged keep gone p = renamed (instead keep.0 gone.0) (kinds_without p.kinds gone) p

-- atoms more, and blocks more
abbrev pub with_atoms : Pure → List Atom → Pure
with_atoms p atoms = record { kinds = p.kinds; written = p.written ++ atoms; starts = p.starts }

abbrev pub with_starts : Pure → List NodeId → Pure
with_starts p nodes = record { kinds = p.kinds; written = p.written; starts = p.starts ++ nodes }

-- a node of the kind, where it was not there yet
abbrev pub IsPut : Pure → NodeId → Kind → Pure → Type 0
IsPut old n kind new = (IsNode old.kinds n × (new ≡ old)) ⊎ ((IsNode old.kinds n → ⊥) × (new ≡ with_node old n kind))

-- nodes alone: the images
pub record HasImages (f : ℕ → ℕ) (kinds : Kinds) (p : Pure) : Type 0 where
  pub images : AreImageKinds f kinds p.kinds
  pub written : p.written ≡ []
  pub starts : p.starts ≡ []

-- of the images, those of the nodes that are done
pub record Gathers (f : ℕ → ℕ) (kinds : Kinds) (Done : NodeId → Type 0) (now : Kinds) : Type 0 where
  pub rise : RiseFrom 1 now
  pub from : (n : NodeId) (kind : Kind) → kind_of now n ≡ Some kind → (n ≢ null) × IsImage f kinds n kind
  pub done : (m : NodeId) (kind : Kind)
      → Done m → kind_of kinds m ≡ Some kind → moved f m ≢ null → kind_of now (moved f m) ≡ Some kind

-- one of the first nodes of a list
abbrev pub IsBelow : List NodeId → ℕ → NodeId → Type 0
IsBelow nodes i n = (k : ℕ) × (k < i) × (slice_get nodes k ≡ Some n)

-- the images of the first nodes, and nothing else
pub record HasFirst (f : ℕ → ℕ) (kinds : Kinds) (nodes : List NodeId) (i : ℕ) (p : Pure) : Type 0 where
  pub images : Gathers f kinds (IsBelow nodes i) p.kinds
  pub written : p.written ≡ []
  pub starts : p.starts ≡ []
