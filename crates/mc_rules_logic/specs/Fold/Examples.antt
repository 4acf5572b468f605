-- States whose edges are folded and whose nodes are named, merged and forgotten, and what they become.
use Rattle.std.specs.Prelude.{ℕ, ℤ, pos, true, false, Some, None, List, [], ◌∷◌, get_or, codes}
use Rattle.mc_base.specs.declared.ids.EdgeId.{EdgeId}
use Rattle.mc_base.specs.declared.ids.NodeId.{NodeId}
use Rattle.mc_base.specs.declared.plain.Atom.TheVariants.{Eq, Ne, In}
use Rattle.mc_base.specs.declared.plain.Kind.TheVariants.{Int, Ptr}
use Rattle.mc_base.specs.Nodes.{Valuation, null}
use Rattle.mc_flow.specs.Heap.Heap.{Block}
use Rattle.mc_flow.specs.declared.defs.rules.Def.{Def}
use Rattle.mc_flow.specs.Defs.Examples.{defs, cell_id, fork_id, list_id, lenlist_id, tree_id, fork_with, list_def, list_rule}
use Rattle.mc_state.specs.declared.graph.edge.Edge.TheVariants.{Block as Fork, Ind, Seg}
use Rattle.mc_state.specs.Graph.Graph.{Edges}
use Rattle.mc_pure.specs.Examples.{node}
use Rattle.mc_pure.specs.Pure.{Kinds}
use Rattle.mc_state.specs.CoverExamples.{state_of, entry, rest_list, other_list}
use Rattle.mc_state.specs.declared.goal.Goal.{Goal}
use Rattle.mc_state.specs.declared.line.FoldInd.{FoldInd}
use Rattle.mc_state.specs.declared.line.FoldSeg.{FoldSeg}
use Rattle.mc_state.specs.State.{State}
use Rattle.mc_rules_logic.specs.Fold.JudgedLaws.{FailsAt}
use Rattle.mc_rules_logic.specs.Fold.Judges.{folding_ind, folding_seg}

-- the edge with a number
abbrev pub edge : ℕ → EdgeId
edge n = record { 0 = n }

-- the nodes from 1 on have these values
abbrev pub valued : List ℤ → Valuation
valued values n = get_or (pos 0 ∷ values) n (pos 0)

-- by whatever test tells what is entailed, this premise of L3 is the first that is unmet
abbrev pub FoldFails : State → FoldInd → ℕ → Type 0
FoldFails s fold k = FailsAt s (λ know. folding_ind know defs fold) k

-- and this one of L4
abbrev pub SegFoldFails : State → FoldSeg → ℕ → Type 0
SegFoldFails s fold k = FailsAt s (λ know. folding_seg know defs fold) k

-- a whole state without variables and atoms, of these kinds and edges, with the next numbers of edges and nodes
abbrev pub left_with : Kinds → Edges → ℕ → ℕ → State
left_with kinds edges next_edge next = record {
  env = [];
  kinds = kinds;
  graph = record { edges = edges; next = next_edge };
  atoms =
      [];
  next = next;
  whole = true;
}

-- ---- folding

-- a cell and the list after it are a list
abbrev pub cell_folded : State
cell_folded = left_with ((node 1, Ptr) ∷ (node 2, Int) ∷ (node 3, Ptr) ∷ []) (entry 2 (Ind (node 1) list_id []) ∷ []) 3 4

-- the cell alone is a segment to the list after it
abbrev pub cell_as_segment : State
cell_as_segment = left_with ((node 1, Ptr) ∷ (node 2, Int) ∷ (node 3, Ptr) ∷ [])
    (entry 1 rest_list ∷ entry 2 (Seg (node 1) [] list_id (node 3) []) ∷ []) 3 4

-- a cell and a list of a length are a list of one more, node 5
abbrev pub length_folded : State
length_folded =
    record {
      env = [];
      kinds = (node 1, Ptr) ∷ (node 2, Int) ∷ (node 3, Ptr) ∷ (node 4, Int) ∷ (node 5, Int) ∷ [];
      graph = record { edges = entry 2 (Ind (node 1) lenlist_id (node 5 ∷ [])) ∷ []; next = 3 };
      atoms = Eq (node 5) (node 4) (pos 1) ∷ [];
      next = 6;
      whole = true;
    }

-- a fork and the tree to its left are a segment to its right, beside a list
abbrev pub fork_as_segment : State
fork_as_segment =
    record {
      env = [];
      kinds = (node 1, Ptr) ∷ (node 2, Ptr) ∷ (node 3, Ptr) ∷ (node 4, Ptr) ∷ [];
      graph = record { edges = entry 0 other_list ∷ entry 3 (Seg (node 1) [] tree_id (node 3) []) ∷ []; next = 4 };
      atoms = Eq (node 3) null (pos 0) ∷ [];
      next = 5;
      whole = true;
    }

-- a segment and the list at its end are a list
abbrev pub segment_closed : State
segment_closed = left_with ((node 1, Ptr) ∷ (node 2, Ptr) ∷ []) (entry 2 (Ind (node 1) list_id []) ∷ []) 3 3

-- two segments, one after the other
abbrev pub two_segments : State
two_segments = state_of ((node 1, Ptr) ∷ (node 2, Ptr) ∷ (node 3, Ptr) ∷ [])
    (Seg (node 1) [] list_id (node 2) [] ∷ Seg (node 2) [] list_id (node 3) [] ∷ []) []

-- the two as one
abbrev pub segments_joined : State
segments_joined = left_with ((node 1, Ptr) ∷ (node 2, Ptr) ∷ (node 3, Ptr) ∷ []) (entry 2 (Seg (node 1) [] list_id (node 3) []) ∷ []) 3 4

-- a pointer, and an empty segment from it to itself
abbrev pub pointer : State
pointer = state_of ((node 1, Ptr) ∷ []) [] []

-- an empty segment from a pointer to itself
abbrev pub with_segment : State
with_segment = left_with ((node 1, Ptr) ∷ []) (entry 0 (Seg (node 1) [] list_id (node 1) []) ∷ []) 1 2

-- ---- naming

-- a number from 5 to 7, and then one that is one more
abbrev pub small_number : State
small_number = state_of ((node 1, Int) ∷ []) [] (In (node 1) (pos 5) (pos 7) ∷ [])

-- a number from 5 to 7, and one that is one more
abbrev pub with_spare : State
with_spare =
    record {
      env = [];
      kinds = (node 1, Int) ∷ (node 2, Int) ∷ [];
      graph = record { edges = []; next = 0 };
      atoms = In (node 1) (pos 5) (pos 7) ∷ Eq (node 2) (node 1) (pos 1) ∷ [];
      next = 3;
      whole = true;
    }

-- a list at one of two equal nodes, and then at the other
abbrev pub named_twice : State
named_twice = state_of ((node 1, Ptr) ∷ (node 2, Ptr) ∷ []) (Ind (node 2) list_id [] ∷ []) (Eq (node 2) (node 1) (pos 0) ∷ [])

-- the list at the other one
abbrev pub named_once : State
named_once =
    record {
      env = [];
      kinds = (node 1, Ptr) ∷ [];
      graph = record { edges = entry 0 (Ind (node 1) list_id []) ∷ []; next = 1 };
      atoms = Eq (node 1) (node 1) (pos 0) ∷ [];
      next = 3;
      whole = true;
    }

-- a list that nothing points to, and what is left when it is dropped
abbrev pub lost_list : State
lost_list = state_of ((node 1, Ptr) ∷ []) (Ind (node 1) list_id [] ∷ []) []

-- what is left when it is dropped
abbrev pub list_dropped : State
list_dropped = record { env = []; kinds = (node 1, Ptr) ∷ []; graph = record { edges = []; next = 1 }; atoms = []; next = 2; whole = false }

-- no node, where node 1 is forgotten
abbrev pub no_pointer : State
no_pointer = left_with [] [] 0 2

-- the goal of a list at node 1
abbrev pub list_goal : Goal
list_goal = record { pred = list_id; at = node 1; args = [] }

-- ---- what is no instance

-- a fork both of whose pointers point to one tree
abbrev pub shared_tree : State
shared_tree = state_of ((node 1, Ptr) ∷ (node 2, Ptr) ∷ [])
    (Fork (node 1) fork_id (Some (node 2) ∷ Some (node 2) ∷ []) ∷ Ind (node 2) tree_id [] ∷ []) []

-- the fork and its shared tree as one tree
abbrev pub shared_folded : State
shared_folded = left_with ((node 1, Ptr) ∷ (node 2, Ptr) ∷ []) (entry 2 (Ind (node 1) tree_id []) ∷ []) 3 3

-- an empty segment of lists of a length, node 2, and there a list of another length, node 3
abbrev pub other_length : State
other_length =
    state_of ((node 1, Ptr) ∷ (node 2, Int) ∷ (node 3, Int) ∷ [])
    (Seg (node 1) (node 2 ∷ []) lenlist_id (node 1) (node 2 ∷ []) ∷ Ind (node 1) lenlist_id (node 3 ∷ []) ∷ [])
    []

-- the segment and the list of another length as one list
abbrev pub length_closed : State
length_closed =
    left_with ((node 1, Ptr) ∷ (node 2, Int) ∷ (node 3, Int) ∷ []) (entry 2 (Ind (node 1) lenlist_id (node 2 ∷ [])) ∷ []) 3 4

-- the second of two forks
abbrev pub second_fork : List (ℕ × Block)
second_fork = (9, fork_with (pos 0) (pos 0)) ∷ []

-- ---- what is refused

-- a segment, and a list at another node than its end
abbrev pub list_apart : State
list_apart = state_of ((node 1, Ptr) ∷ (node 2, Ptr) ∷ (node 3, Ptr) ∷ [])
    (Seg (node 1) [] list_id (node 2) [] ∷ Ind (node 3) list_id [] ∷ []) []

-- a cell of whose pointer nothing is known, and a list
abbrev pub cell_unknown : State
cell_unknown = state_of ((node 1, Ptr) ∷ (node 2, Int) ∷ (node 3, Ptr) ∷ [])
    (Fork (node 1) cell_id (Some (node 2) ∷ None ∷ []) ∷ rest_list ∷ []) []

-- a predicate of cells with a list after them: its rule calls another predicate
abbrev pub other_defs : List Def
other_defs = list_def ∷ record { name = codes "cell"; params = []; rules = list_rule ∷ [] } ∷ []

-- a pointer that is a variable's
abbrev pub pointed_node : State
pointed_node = record pointer { env = Some (node 1) ∷ [] }

-- a list that a variable points to
abbrev pub pointed_list : State
pointed_list = record lost_list { env = Some (node 1) ∷ [] }

-- a pointer that is not itself
abbrev pub false_pointer : State
false_pointer = state_of ((node 1, Ptr) ∷ []) [] (Ne (node 1) (node 1) (pos 0) ∷ [])

-- the first three nodes
abbrev pub first_three : List NodeId
first_three = node 1 ∷ node 2 ∷ node 3 ∷ []

-- the goal of a list at node 0
abbrev pub null_goal : Goal
null_goal = record { pred = list_id; at = null; args = [] }

-- the goal of a tree at node 1
abbrev pub tree_goal : Goal
tree_goal = record { pred = tree_id; at = node 1; args = [] }

-- ---- what is written where a node is forgotten

-- a pointer at which a block starts, and another pointer
abbrev pub block_beside : State
block_beside = state_of ((node 1, Ptr) ∷ (node 2, Ptr) ∷ []) (Fork (node 1) cell_id (None ∷ None ∷ []) ∷ []) []

-- the first alone: that it is an address is written
abbrev pub block_left : State
block_left =
    record {
      env = [];
      kinds = (node 1, Ptr) ∷ [];
      graph = record { edges = entry 0 (Fork (node 1) cell_id (None ∷ None ∷ [])) ∷ []; next = 1 };
      atoms = In (node 1) (pos 1) (pos 4611686018427387903) ∷ [];
      next = 3;
      whole = true;
    }

-- two numbers that are equal, of which the second is not the first and five more
abbrev pub gap_beside : State
gap_beside = state_of ((node 1, Int) ∷ (node 2, Int) ∷ []) [] (Eq (node 2) (node 1) (pos 0) ∷ Ne (node 2) (node 1) (pos 5) ∷ [])

-- the first alone, which is not itself and five more
abbrev pub gap_left : State
gap_left =
    record {
      env = [];
      kinds = (node 1, Int) ∷ [];
      graph = record { edges = []; next = 0 };
      atoms = Ne (node 1) (node 1) (pos 5) ∷ [];
      next = 3;
      whole = true;
    }
