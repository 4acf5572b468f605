-- A list and a segment that are unfolded, and what they become.
use Rattle.std.specs.Prelude.{ℕ, pos, true, Some, List, [], ◌∷◌, get_or}
use Rattle.mc_base.specs.declared.ids.EdgeId.{EdgeId}
use Rattle.mc_base.specs.declared.plain.Atom.TheVariants.{Eq}
use Rattle.mc_base.specs.declared.plain.Kind.TheVariants.{Int, Ptr}
use Rattle.mc_base.specs.Nodes.{Valuation, null}
use Rattle.mc_flow.specs.Heap.Heap.{Block}
use Rattle.mc_flow.specs.Defs.Examples.{cell_id, fork_id, list_id, tree_id, fork_with}
use Rattle.mc_state.specs.declared.graph.edge.Edge.{Edge}
use Rattle.mc_state.specs.declared.graph.edge.Edge.TheVariants.{Block as Cell, Ind, Seg}
use Rattle.mc_pure.specs.Examples.{node}
use Rattle.mc_state.specs.CoverExamples.{state_of, entry}
use Rattle.mc_state.specs.State.{State}

-- the edge with a number
abbrev pub edge : ℕ → EdgeId
edge n = record { 0 = n }

-- a list
abbrev pub one_list : State
one_list = state_of ((node 1, Ptr) ∷ []) (Ind (node 1) list_id [] ∷ []) []

-- null, and nothing
abbrev pub no_cell : State
no_cell = record {
  env = [];
  kinds = (node 1, Ptr)
      ∷ [];
  graph = record { edges = []; next = 1 };
  atoms = Eq (node 1) null (pos 0) ∷ [];
  next = 2;
  whole = true;
}

-- a cell with a list after it
abbrev pub cell_then_list : State
cell_then_list =
    record {
      env = [];
      kinds = (node 1, Ptr) ∷ (node 2, Int) ∷ (node 3, Ptr) ∷ [];
      graph = record {
        edges = entry 1 (Cell (node 1) cell_id (Some (node 2) ∷ Some (node 3) ∷ []))
            ∷ entry 2 (Ind (node 3) list_id []) ∷ [];
        next = 3;
      };
      atoms = [];
      next = 4;
      whole = true;
    }

-- a list segment
abbrev pub one_segment : State
one_segment = state_of ((node 1, Ptr) ∷ (node 2, Ptr) ∷ []) (Seg (node 1) [] list_id (node 2) [] ∷ []) []

-- one node for both its ends, and nothing
abbrev pub no_segment : State
no_segment =
    record {
      env = [];
      kinds = (node 1, Ptr) ∷ (node 2, Ptr) ∷ [];
      graph = record { edges = []; next = 1 };
      atoms = Eq (node 1) (node 2) (pos 0) ∷ [];
      next = 3;
      whole = true;
    }

-- a cell with a segment after it
abbrev pub cell_then_segment : State
cell_then_segment =
    record {
      env = [];
      kinds = (node 1, Ptr) ∷ (node 2, Ptr) ∷ (node 3, Int) ∷ (node 4, Ptr) ∷ [];
      graph = record {
        edges = entry 1 (Cell (node 1) cell_id (Some (node 3) ∷ Some (node 4) ∷ []))
            ∷ entry 2 (Seg (node 4) [] list_id (node 2) []) ∷ [];
        next = 3;
      };
      atoms = [];
      next = 5;
      whole = true;
    }

-- the first two nodes have these values
abbrev pub first_two : ℕ → ℕ → Valuation
first_two one two n = get_or (pos 0 ∷ pos one ∷ pos two ∷ []) n (pos 0)

-- a segment of trees
abbrev pub tree_segment : State
tree_segment = state_of ((node 1, Ptr) ∷ (node 2, Ptr) ∷ []) (Seg (node 1) [] tree_id (node 2) [] ∷ []) []

-- a fork, where the segment goes on to its left or to its right
abbrev pub fork_then : Edge → Edge → State
fork_then left right =
    record {
      env = [];
      kinds = (node 1, Ptr) ∷ (node 2, Ptr) ∷ (node 3, Ptr) ∷ (node 4, Ptr) ∷ [];
      graph = record {
        edges = entry 1 (Cell (node 1) fork_id (Some (node 3) ∷ Some (node 4) ∷ [])) ∷ entry 2 left
            ∷ entry 3 right ∷ [];
        next = 4;
      };
      atoms = [];
      next = 5;
      whole = true;
    }

-- a fork whose left tree is the segment
abbrev pub goes_left : State
goes_left = fork_then (Seg (node 3) [] tree_id (node 2) []) (Ind (node 4) tree_id [])

-- a fork whose right tree is the segment
abbrev pub goes_right : State
goes_right = fork_then (Ind (node 3) tree_id []) (Seg (node 4) [] tree_id (node 2) [])

-- a fork with null to its left, that points to 9 to its right
abbrev pub right_fork : List (ℕ × Block)
right_fork = (7, fork_with (pos 0) (pos 9)) ∷ []
