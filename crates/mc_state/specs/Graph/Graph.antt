-- Graphs: edges with their ids.
use Rattle.std.specs.Prelude.{◌≡◌, ◌==◌, ◌+◌, ◌<◌, ℕ, suc, Option, Some, None, List, [], ◌∷◌, ◌++◌, map, length, if◌then◌else◌}
use Rattle.mc_base.specs.declared.ids.EdgeId.{EdgeId}
use Rattle.mc_base.specs.declared.ids.NodeId.{NodeId}
use Rattle.mc_state.specs.declared.graph.edge.Edge.{Edge}
use Rattle.mc_state.specs.declared.graph.edge.Edge.TheVariants.{Block, Ind, Seg}
use Rattle.mc_state.specs.Graph.Edges.{moved_edge}

-- edges in order, each with its id
abbrev pub Edges : Type 0
Edges = List (EdgeId × Edge)

-- edges, and the least number that was the id of none yet
pub record Graph : Type 0 where
  pub edges : Edges
  pub next : ℕ

-- the graph without an edge
abbrev pub no_edges : Graph
no_edges = record { edges = []; next = 0 }

-- the edge with an id
abbrev pub edge_with : Edges → EdgeId → Option Edge
edge_with [] id = None
edge_with (e ∷ es) id = if e.0.0 == id.0 then Some e.1 else edge_with es id

-- the edges without the one with an id
abbrev pub without : Edges → EdgeId → Edges
without [] id = []
without (e ∷ es) id = if e.0.0 == id.0 then es else e ∷ without es id

-- another edge in place of the one with an id
abbrev pub replaced : Edges → EdgeId → Edge → Edges
replaced [] id new = []
replaced (e ∷ es) id new = if e.0.0 == id.0 then (e.0, new) ∷ es else e ∷ replaced es id new

-- edges with ids from a number on
abbrev pub numbered : ℕ → List Edge → Edges
numbered n [] = []
numbered n (e ∷ es) = (record { 0 = n }, e) ∷ numbered (suc n) es

-- the graph with these edges alone
abbrev pub with_only : Graph → Edges → Graph
with_only g es = record { edges = es; next = g.next }

-- the graph with new edges after its own
abbrev pub with_new : Graph → List Edge → Graph
with_new g new = record { edges = g.edges ++ numbered g.next new; next = g.next + length new }

-- the nodes at which blocks start
abbrev pub block_starts : Edges → List NodeId
block_starts [] = []
block_starts ((id, Block at shape fields) ∷ es) = at ∷ block_starts es
block_starts ((id, Ind at pred args) ∷ es) = block_starts es
block_starts ((id, Seg at args pred «end» ends) ∷ es) = block_starts es

-- the graph with other nodes in place of its own
abbrev pub moved_graph : (ℕ → ℕ) → Graph → Graph
moved_graph f g = record { edges = map (λ e. (e.0, moved_edge f e.1)) g.edges; next = g.next }

-- edges named by ids: they are there and distinct, these they are, and those are left
abbrev pub Picks : List EdgeId → Edges → List Edge → Edges → Type 0
Picks [] es picked left = (picked ≡ []) × (left ≡ es)
Picks (id ∷ ids) es [] left = ⊥
Picks (id ∷ ids) es (e ∷ picked) left = (edge_with es id ≡ Some e) × Picks ids (without es id) picked left

-- ids ascend from a number on, and stay below another
abbrev pub IdsAscend : ℕ → Edges → ℕ → Type 0
IdsAscend low [] high = Unit {0}
IdsAscend low (e ∷ es) high = (low < suc e.0.0) × (e.0.0 < high) × IdsAscend (suc e.0.0) es high
