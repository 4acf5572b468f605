-- States that are the same under a renaming of their nodes.
use Rattle.std.specs.Prelude.{◌≡◌, ◌==◌, ℕ, List, [], ◌∷◌, Some, map, slice_get, if◌then◌else◌}
use Rattle.mc_base.specs.declared.ids.EdgeId.{EdgeId}
use Rattle.mc_base.specs.declared.ids.NodeId.{NodeId}
use Rattle.mc_base.specs.declared.plain.Atom.{Atom}
use Rattle.mc_base.specs.Atoms.{moved_atom}
use Rattle.mc_base.specs.Nodes.{moved}
use Rattle.mc_state.specs.declared.graph.edge.Edge.{Edge}
use Rattle.mc_state.specs.Graph.Edges.{moved_edge}
use Rattle.mc_state.specs.Graph.Graph.{Edges}
use Rattle.mc_pure.specs.Pure.{Kinds, kind_of}
use Rattle.mc_pure.specs.Rows.{nodes_of}
use Rattle.mc_state.specs.State.{State}
use Rattle.mc_state.specs.Facts.{Derives}
use Rattle.mc_joins.specs.Same.Same.{AreSameUnder}

-- the renaming is a bijection of the nodes, with some way back, under which both are the same state
abbrev pub AreSameBy : (ℕ → ℕ) → State → State → Type 0
AreSameBy f s t = (back : ℕ → ℕ) × AreSameUnder f back s t

-- the first of the nodes that goes to a number; 0 where none does
abbrev pub origin : (ℕ → ℕ) → List NodeId → ℕ → ℕ
origin f [] m = 0
origin f (n ∷ nodes) m = if f n.0 == m then n.0 else origin f nodes m

-- the way back to the nodes of a state
abbrev pub way_back : (ℕ → ℕ) → State → ℕ → ℕ
way_back f s = origin f (nodes_of s.kinds)

-- the node goes to one of its kind, and comes back
pub record Goes (f back : ℕ → ℕ) (kinds others : Kinds) (n : NodeId) : Type 0 where
  pub kind : kind_of others (moved f n) ≡ kind_of kinds n
  pub comes_back : back (f n.0) ≡ n.0

-- each node does
abbrev pub AllGo : (f back : ℕ → ℕ) → Kinds → Kinds → Type 0
AllGo f back kinds others =
    (place : ℕ) (n : NodeId) → slice_get (nodes_of kinds) place ≡ Some n → Goes f back kinds others n

-- a node of the first state goes to one of the second of its kind, and comes back
abbrev pub GoesThere : (ℕ → ℕ) → State → State → NodeId → Type 0
GoesThere f s t n = Goes f (way_back f s) s.kinds t.kinds n

-- a node of the second comes from one of the first of its kind, and goes back
abbrev pub ComesFrom : (ℕ → ℕ) → State → State → NodeId → Type 0
ComesFrom f s t n = Goes (way_back f s) f t.kinds s.kinds n

-- each node of the first does
abbrev pub AllGoThere : (ℕ → ℕ) → State → State → Type 0
AllGoThere f s t = AllGo f (way_back f s) s.kinds t.kinds

-- each node of the second does
abbrev pub AllComeFrom : (ℕ → ℕ) → State → State → Type 0
AllComeFrom f s t = AllGo (way_back f s) f t.kinds s.kinds

-- node 0 stays, and each node of either state goes to one of the other and comes back
pub record IsBijection (f : ℕ → ℕ) (s t : State) : Type 0 where
  pub null_stays : f 0 ≡ 0
  pub there : AllGoThere f s t
  pub again : AllComeFrom f s t

-- edges with their ids, and other nodes in place of their own
abbrev pub moved_edges : (ℕ → ℕ) → Edges → Edges
moved_edges f es = map {A = EdgeId × Edge} {B = EdgeId × Edge} (λ e. (e.0, moved_edge f e.1)) es

-- each of the atoms, renamed, is entailed in the state
abbrev pub AreKnown : (ℕ → ℕ) → List Atom → State → Type 0
AreKnown f atoms s = (place : ℕ) (a : Atom) → slice_get atoms place ≡ Some a → Derives s (moved_atom f a)
