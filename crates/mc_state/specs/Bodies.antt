-- The bodies of rules as edges.
use Rattle.std.specs.Prelude.{ℕ, zero, suc, List, [], ◌∷◌, ◌++◌, Option, Some, None, map}
use Rattle.mc_base.specs.declared.ids.NodeId.{NodeId}
use Rattle.mc_base.specs.declared.ids.StructId.{StructId}
use Rattle.mc_flow.specs.declared.defs.rules.Call.{Call}
use Rattle.mc_flow.specs.Defs.Instances.{node_of}
use Rattle.mc_state.specs.declared.graph.edge.Edge.{Edge}
use Rattle.mc_state.specs.declared.graph.edge.Edge.TheVariants.{Block, Ind, Seg}

-- a call as an edge
abbrev pub call_edge : List NodeId → Call → Edge
call_edge nodes call = Ind (node_of nodes call.at) call.pred (map (node_of nodes) call.args)

-- a call as a segment to an end
abbrev pub call_segment : List NodeId → NodeId → List NodeId → Call → Edge
call_segment nodes «end» ends call = Seg (node_of nodes call.at) (map (node_of nodes) call.args) call.pred end ends

-- a rule's block as an edge, where it has one
abbrev pub block_edges : List NodeId → Option StructId → List ℕ → List Edge
block_edges nodes None contents = []
block_edges nodes (Some shape) contents = Block (node_of nodes 0) shape (map (λ name. Some (node_of nodes name)) contents) ∷ []

-- a block and calls
abbrev pub body_edges : List NodeId → Option StructId → List ℕ → List Call → List Edge
body_edges nodes block contents calls = block_edges nodes block contents ++ map (call_edge nodes) calls

-- the calls, of which the one at a place is a segment to an end
abbrev pub calls_to : List NodeId → NodeId → List NodeId → ℕ → List Call → List Edge
calls_to nodes «end» ends place [] = []
calls_to nodes «end» ends zero (call ∷ calls) = call_segment nodes end ends call ∷ map (call_edge nodes) calls
calls_to nodes «end» ends (suc place) (call ∷ calls) = call_edge nodes call ∷ calls_to nodes end ends place calls

-- a block and such calls
abbrev pub body_to : List NodeId → NodeId → List NodeId → ℕ → Option StructId → List ℕ → List Call → List Edge
body_to nodes «end» ends place block contents calls = block_edges nodes block contents ++ calls_to nodes end ends place calls
