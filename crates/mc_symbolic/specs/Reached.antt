-- Nodes that are found one after the other, and edges that are used.
use Rattle.std.specs.Prelude.{◌≡◌, ◌⊎◌, ◌<◌, ◌+◌, ◌++◌, ℕ, Bool, true, false, List, [], ◌∷◌, Some, Contains, slice_get, slice_set, length}
use Rattle.mc_base.specs.declared.ids.EdgeId.{EdgeId}
use Rattle.mc_base.specs.declared.ids.NodeId.{NodeId}
use Rattle.mc_state.specs.declared.graph.edge.Edge.{Edge}
use Rattle.mc_state.specs.Graph.Edges.{start_of, nodes_of}
use Rattle.mc_state.specs.Graph.Graph.{Edges}
use Rattle.mc_state.specs.State.{State}
use Rattle.mc_state.specs.Facts.{AreEqual, IsReached}

-- the node is one of a list
abbrev pub IsAmong : List NodeId → NodeId → Type 0
IsAmong xs n = (k : ℕ) × (slice_get xs k ≡ Some n)

-- all nodes of a list are reached
abbrev pub AreReached : State → List NodeId → Type 0
AreReached s found = (k : ℕ) (n : NodeId) → slice_get found k ≡ Some n → IsReached s n

-- all nodes of the edges that are used are found
abbrev pub AreOpened : State → List NodeId → List Bool → Type 0
AreOpened s found used =
    (i : ℕ) (e : EdgeId × Edge) → slice_get used i ≡ Some true → slice_get s.graph.edges i ≡ Some e
    → (n : NodeId) → Contains (nodes_of e.1) n → IsAmong found n

-- how many nodes the edges have that are not used yet
abbrev pub pending : List Bool → Edges → ℕ
pending [] es = 0
pending (u ∷ used) [] = 0
pending (true ∷ used) (e ∷ es) = pending used es
pending (false ∷ used) (e ∷ es) = length (nodes_of e.1) + pending used es

-- an edge is used already, or starts at no node that equals this one; else it is used now, and its nodes are found
abbrev pub IsOpened : State → NodeId → ℕ → (found : List NodeId) (used : List Bool) (found' : List NodeId) (used' : List Bool) → Type 0
IsOpened s node i found used found' used' =
    ((found' ≡ found) × (used' ≡ used) ×
    ((slice_get used i ≡ Some true)
    ⊎ ((e : EdgeId × Edge) → slice_get s.graph.edges i ≡ Some e → AreEqual s (start_of e.1) node → ⊥)))
    ⊎ ((e : EdgeId × Edge) × (slice_get s.graph.edges i ≡ Some e) × AreEqual s (start_of e.1) node × (slice_get used i ≡ Some false)
    × (found' ≡ found ++ nodes_of e.1) × (used' ≡ slice_set used i true))

-- of the first edges, those that start at a node which equals this one are used now, and their nodes are found
pub record Opens (s : State) (node : NodeId) (count : ℕ) (found : List NodeId) (used : List Bool)
    (found' : List NodeId) (used' : List Bool) : Type 0 where
  pub more : (k : ℕ) (n : NodeId) → slice_get found k ≡ Some n → slice_get found' k ≡ Some n
  pub still : (i : ℕ) → slice_get used i ≡ Some true → slice_get used' i ≡ Some true
  pub sound : IsReached s node → AreReached s found → AreReached s found'
  pub opened : AreOpened s found used → AreOpened s found' used'
  pub done : (i : ℕ) (e : EdgeId × Edge) → i < count → slice_get s.graph.edges i ≡ Some e
      → AreEqual s (start_of e.1) node → slice_get used' i ≡ Some true
  pub long : length used' ≡ length used
  pub weight : length found' + pending used' s.graph.edges ≡ length found + pending used s.graph.edges

-- the first nodes that were found led to all edges that start at nodes equal to them, and none of them equals the goal
pub record Searches (s : State) (goal : NodeId) (next : ℕ) (found : List NodeId) (used : List Bool) : Type 0 where
  pub sound : AreReached s found
  pub opened : AreOpened s found used
  pub null_found : (k : ℕ) × (slice_get found k ≡ Some (record { 0 = 0 }))
  pub vars_found : (place : ℕ) (n : NodeId) → slice_get s.env place ≡ Some (Some n) → IsAmong found n
  pub done : (k i : ℕ) (p : NodeId) (e : EdgeId × Edge) → k < next → slice_get found k ≡ Some p
      → slice_get s.graph.edges i ≡ Some e → AreEqual s (start_of e.1) p → slice_get used i ≡ Some true
  pub tried : (k : ℕ) (p : NodeId) → k < next → slice_get found k ≡ Some p → AreEqual s p goal → ⊥
  pub long : length used ≡ length s.graph.edges
