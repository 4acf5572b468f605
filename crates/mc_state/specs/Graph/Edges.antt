-- Edges, and the nodes that they name.
use Rattle.std.specs.Prelude.{◌==◌, ℕ, Bool, false, Option, Some, None, List, [], ◌∷◌, ◌++◌, map, option_map, slice_set}
use Rattle.mc_base.specs.declared.ids.NodeId.{NodeId}
use Rattle.mc_base.specs.declared.ids.PredId.{PredId}
use Rattle.mc_base.specs.declared.ids.StructId.{StructId}
use Rattle.mc_base.specs.Nodes.{moved}
use Rattle.mc_state.specs.declared.graph.edge.Edge.{Edge}
use Rattle.mc_state.specs.declared.graph.edge.Edge.TheVariants.{Block, Ind, Seg}

-- the nodes of a list that are known
abbrev pub known_nodes : List (Option NodeId) → List NodeId
known_nodes [] = []
known_nodes (None ∷ nodes) = known_nodes nodes
known_nodes (Some n ∷ nodes) = n ∷ known_nodes nodes

-- the node at which an edge starts
abbrev pub start_of : Edge → NodeId
start_of (Block at shape fields) = at
start_of (Ind at pred args) = at
start_of (Seg at args pred «end» ends) = at

-- the other nodes of an edge: the known fields of a block, arguments, and the end of a segment with its arguments
abbrev pub other_nodes : Edge → List NodeId
other_nodes (Block at shape fields) = known_nodes fields
other_nodes (Ind at pred args) = args
other_nodes (Seg at args pred «end» ends) = args ++ (end ∷ ends)

-- all nodes of an edge
abbrev pub nodes_of : Edge → List NodeId
nodes_of e = start_of e ∷ other_nodes e

-- the fields of a block, each with its node where it is known; another edge has none
abbrev pub fields_of : Edge → List (Option NodeId)
fields_of (Block at shape fields) = fields
fields_of (Ind at pred args) = []
fields_of (Seg at args pred «end» ends) = []

-- the edge is a block of this struct
abbrev pub has_shape : StructId → Edge → Bool
has_shape shape (Block at own fields) = shape.0 == own.0
has_shape shape (Ind at pred args) = false
has_shape shape (Seg at args pred «end» ends) = false

-- the edge is an Ind or a Seg of this predicate
abbrev pub is_of : PredId → Edge → Bool
is_of pred (Block at shape fields) = false
is_of pred (Ind at own args) = pred.0 == own.0
is_of pred (Seg at args own «end» ends) = pred.0 == own.0

-- the block with a node in a field; another edge stays
abbrev pub with_field_node : ℕ → NodeId → Edge → Edge
with_field_node f n (Block at shape fields) = Block at shape (slice_set fields f (Some n))
with_field_node f n (Ind at pred args) = Ind at pred args
with_field_node f n (Seg at args pred «end» ends) = Seg at args pred «end» ends

-- the edge with other nodes in place of its own
abbrev pub moved_edge : (ℕ → ℕ) → Edge → Edge
moved_edge f (Block at shape fields) = Block (moved f at) shape (map (option_map (moved f)) fields)
moved_edge f (Ind at pred args) = Ind (moved f at) pred (map (moved f) args)
moved_edge f (Seg at args pred «end» ends) = Seg (moved f at) (map (moved f) args) pred (moved f end) (map (moved f) ends)
