-- States with and without covers of lists, lists of a length, and trees.
use Rattle.std.specs.Prelude.{ℕ, suc, pos, true, Some, List, [], ◌∷◌, length, get_or}
use Rattle.mc_base.specs.declared.ids.EdgeId.{EdgeId}
use Rattle.mc_base.specs.declared.plain.Atom.{Atom}
use Rattle.mc_base.specs.declared.plain.Atom.TheVariants.{Eq, Ne}
use Rattle.mc_base.specs.declared.plain.Kind.TheVariants.{Int, Ptr}
use Rattle.mc_base.specs.Nodes.{Valuation, null}
use Rattle.mc_flow.specs.Defs.Examples.{cell_id, fork_id, list_id, lenlist_id, tree_id}
use Rattle.mc_state.specs.declared.graph.edge.Edge.{Edge}
use Rattle.mc_state.specs.declared.graph.edge.Edge.TheVariants.{Block, Ind, Seg}
use Rattle.mc_state.specs.Graph.Graph.{numbered}
use Rattle.mc_pure.specs.Examples.{node}
use Rattle.mc_pure.specs.Pure.{Kinds}
use Rattle.mc_state.specs.declared.terms.Term.{Term}
use Rattle.mc_state.specs.State.{State}
use Rattle.mc_state.specs.Terms.{plain}

-- a whole state without variables, of these kinds, edges and atoms
abbrev pub state_of : Kinds → List Edge → List Atom → State
state_of kinds es atoms =
    record {
      env = [];
      kinds = kinds;
      graph = record
          { edges = numbered 0 es; next = length es };
      atoms = atoms;
      next = suc (length kinds);
      whole = true;
    }

-- the term of a node
abbrev pub at : ℕ → Term
at n = plain (node n)

-- an edge with its id
abbrev pub entry : ℕ → Edge → EdgeId × Edge
entry id e = (record { 0 = id }, e)

-- a pointer that is not null, and no edges
abbrev pub lone_pointer : State
lone_pointer = state_of ((node 1, Ptr) ∷ []) [] (Ne (node 1) null (pos 0) ∷ [])

-- a cell that points to a list
abbrev pub rest_list : Edge
rest_list = Ind (node 3) list_id []

-- a cell that points to a list
abbrev pub cell_and_list : State
cell_and_list = state_of ((node 1, Ptr) ∷ (node 2, Int) ∷ (node 3, Ptr) ∷ [])
    (Block (node 1) cell_id (Some (node 2) ∷ Some (node 3) ∷ []) ∷ rest_list ∷ []) []

-- a segment to a list
abbrev pub segment_and_list : State
segment_and_list = state_of ((node 1, Ptr) ∷ (node 2, Ptr) ∷ []) (Seg (node 1) [] list_id (node 2) [] ∷ Ind (node 2) list_id [] ∷ []) []

-- a cell that points to a list of a length, node 4; node 5 is one more
abbrev pub cell_and_length : State
cell_and_length =
    state_of ((node 1, Ptr) ∷ (node 2, Int) ∷ (node 3, Ptr) ∷ (node 4, Int) ∷ (node 5, Int) ∷ [])
    (Block (node 1) cell_id (Some (node 2) ∷ Some (node 3) ∷ []) ∷ Ind (node 3) lenlist_id (node 4 ∷ []) ∷ [])
    (Eq (node 5) (node 4) (pos 1) ∷ [])

-- a list, and a fork with a tree to its left and null to its right
abbrev pub other_list : Edge
other_list = Ind (node 4) list_id []

-- a list, and a fork with a tree to its left and null to its right
abbrev pub fork_and_tree : State
fork_and_tree =
    state_of ((node 1, Ptr) ∷ (node 2, Ptr) ∷ (node 3, Ptr) ∷ (node 4, Ptr) ∷ [])
    (other_list ∷ Block (node 1) fork_id (Some (node 2) ∷ Some (node 3) ∷ []) ∷ Ind (node 2) tree_id [] ∷ [])
    (Eq (node 3) null (pos 0) ∷ [])

-- a fork both of whose pointers point to one tree, which is not null
abbrev pub shared_tree : State
shared_tree =
    state_of ((node 1, Ptr) ∷ (node 2, Ptr) ∷ [])
    (Block (node 1) fork_id (Some (node 2) ∷ Some (node 2) ∷ []) ∷ Ind (node 2) tree_id [] ∷ [])
    (Ne (node 2) null (pos 0) ∷ [])

-- the cell at 7 points to 9
abbrev pub at_seven : Valuation
at_seven n = get_or (pos 0 ∷ pos 7 ∷ pos 5 ∷ pos 9 ∷ []) n (pos 0)
