-- Edges that lines name by their ids, and the parts of an edge.
use Rattle.std.specs.Prelude.{◌≡◌, ◌==◌, ◌&&◌, ◌++◌, not, Bool, true, false, List, [], ◌∷◌, Option, Some, None, is_some, option_to_list, if◌then◌else◌}
use Rattle.std.specs.List.{list_all, list_any}
use Rattle.mc_base.specs.declared.ids.EdgeId.{EdgeId}
use Rattle.mc_base.specs.declared.ids.NodeId.{NodeId}
use Rattle.mc_base.specs.declared.ids.PredId.{PredId}
use Rattle.mc_state.specs.declared.graph.edge.Edge.{Edge}
use Rattle.mc_state.specs.declared.graph.edge.Edge.TheVariants.{Block, Ind, Seg}
use Rattle.mc_state.specs.Graph.Graph.{Edges, edge_with, without}

-- the edges without those that are named
abbrev pub others : Edges → List EdgeId → Edges
others es [] = es
others es (id ∷ ids) = others (without es id) ids

-- a Seg, part by part
pub record SegParts : Type 0 where
  pub at : NodeId
  pub args : List NodeId
  pub pred : PredId
  pub stop : NodeId
  pub ends : List NodeId

-- the parts of an edge that is a Seg
abbrev pub seg_of : Option Edge → Option SegParts
seg_of None = None
seg_of (Some (Block at shape fields)) = None
seg_of (Some (Ind at pred args)) = None
seg_of (Some (Seg at args pred «end» ends)) = Some (record { at = at; args = args; pred = pred; stop = end; ends = ends })

-- an Ind of a known predicate
pub record IndParts : Type 0 where
  pub at : NodeId
  pub args : List NodeId

-- the parts of an edge that is an Ind of the predicate
abbrev pub ind_of : PredId → Option Edge → Option IndParts
ind_of pred None = None
ind_of pred (Some (Block at shape fields)) = None
ind_of pred (Some (Ind at own args)) = if own.0 == pred.0 then Some (record { at = at; args = args }) else None
ind_of pred (Some (Seg at args own «end» ends)) = None

-- the edge, if it is another one
abbrev pub other_edge : Edges → EdgeId → EdgeId → Option Edge
other_edge es first second = if second.0 == first.0 then None else edge_with es second

-- each edge that is named is there
abbrev pub are_there : Edges → List EdgeId → Bool
are_there es ids = list_all (λ id. is_some (edge_with es id)) ids

-- the id is one of a list
abbrev pub is_among : EdgeId → List EdgeId → Bool
is_among id ids = list_any (λ other. other.0 == id.0) ids

-- no id stands twice
abbrev pub are_distinct : List EdgeId → Bool
are_distinct [] = true
are_distinct (id ∷ ids) = not (is_among id ids) && are_distinct ids

-- a block's edge, if one is named, is there and none of the others
abbrev pub is_apart : Edges → Option EdgeId → List EdgeId → Bool
is_apart es None ids = true
is_apart es (Some id) ids = is_some (edge_with es id) && not (is_among id ids)

-- all named edges are there and distinct
abbrev pub are_named : Edges → Option EdgeId → List EdgeId → Bool
are_named es block ids = is_apart es block ids && are_there es ids && are_distinct ids

-- the edges that are named
abbrev pub named_ids : Option EdgeId → List EdgeId → List EdgeId
named_ids block ids = option_to_list block ++ ids

-- these are the edges that ids name
abbrev pub Looked : Edges → List EdgeId → List Edge → Type 0
Looked es [] [] = Unit {0}
Looked es [] (e ∷ picked) = ⊥
Looked es (id ∷ ids) [] = ⊥
Looked es (id ∷ ids) (e ∷ picked) = (edge_with es id ≡ Some e) × Looked es ids picked
