-- Where edges stand among others.
use Rattle.std.specs.Prelude.{◌≡◌, ◌==◌, ℕ, ◌<◌, ◌≤◌, List, [], ◌∷◌, Some, slice_get, length, if◌then◌else◌}
use Rattle.mc_base.specs.declared.ids.EdgeId.{EdgeId}
use Rattle.mc_base.specs.declared.ids.NodeId.{NodeId}
use Rattle.mc_state.specs.declared.graph.edge.Edge.{Edge}
use Rattle.mc_state.specs.Graph.Edges.{start_of}
use Rattle.mc_state.specs.Graph.Graph.{Edges}

-- each id is below those that follow it
abbrev pub DoAscend : Edges → Type 0
DoAscend es = (i j : ℕ) (a b : EdgeId × Edge) → i < j → slice_get es i ≡ Some a → slice_get es j ≡ Some b → a.0.0 < b.0.0

-- the place of an id, or where it belongs
abbrev pub IsPlace : Edges → EdgeId → ℕ → Type 0
IsPlace es id place =
    ((i : ℕ) (a : EdgeId × Edge) → i < place → slice_get es i ≡ Some a → a.0.0 < id.0)
    × ((i : ℕ) (a : EdgeId × Edge) → place ≤ i → slice_get es i ≡ Some a → id.0 ≤ a.0.0)

-- no edge has the id
abbrev pub IsAbsent : Edges → EdgeId → Type 0
IsAbsent es id = (i : ℕ) (a : EdgeId × Edge) → slice_get es i ≡ Some a → a.0 ≡ id → ⊥

-- the edge at a place is the only one with the id
abbrev pub StandsAt : Edges → EdgeId → ℕ → Type 0
StandsAt es id place =
    (place < length es) × ((i : ℕ) (a : EdgeId × Edge) → slice_get es i ≡ Some a → (a.0 ≡ id → i ≡ place) × (i ≡ place → a.0 ≡ id))

-- the ids of the edges that start at a node
abbrev pub ids_at : Edges → NodeId → List EdgeId
ids_at [] n = []
ids_at (e ∷ es) n = if (start_of e.1).0 == n.0 then e.0 ∷ ids_at es n else ids_at es n
