-- Small states that are joined.
use Rattle.std.specs.Prelude.{ℕ, suc, pos, true, List, [], ◌∷◌, Option, Some, length}
use Rattle.mc_base.specs.declared.ids.NodeId.{NodeId}
use Rattle.mc_base.specs.declared.plain.Atom.{Atom}
use Rattle.mc_base.specs.declared.plain.Atom.TheVariants.{Eq, In}
use Rattle.mc_base.specs.declared.plain.Kind.TheVariants.{Int, Ptr}
use Rattle.mc_base.specs.Nodes.{null}
use Rattle.mc_flow.specs.Defs.Examples.{cell_id, list_id, lenlist_id, tree_id, defs}
use Rattle.mc_state.specs.declared.graph.edge.Edge.{Edge}
use Rattle.mc_state.specs.declared.graph.edge.Edge.TheVariants.{Block, Ind, Seg}
use Rattle.mc_state.specs.Graph.Graph.{numbered}
use Rattle.mc_pure_ops.specs.Join.Joint.{Pairs}
use Rattle.mc_pure.specs.Examples.{node}
use Rattle.mc_pure.specs.Pure.{Kinds}
use Rattle.mc_state.specs.declared.line.Side.{Side}
use Rattle.mc_state.specs.State.{State, with_atoms, with_nodes}
use Rattle.mc_cover.specs.Examples.{knowing}
use Rattle.mc_joins.specs.Joinings.{Half, Joining, Pair}
use Rattle.mc_joins.specs.Parts.{Basis}

-- in these states nothing is known but the written atoms, and that nodes are themselves and lie in the ranges of
-- their kinds
abbrev pub by_atoms : Basis
by_atoms = record { know = λ s. knowing s s.atoms; defs = defs }

-- a whole state with these variables, kinds, edges and atoms
abbrev pub state_of : List (Option NodeId) → Kinds → List Edge → List Atom → State
state_of env kinds es atoms =
    record {
      env = env;
      kinds = kinds;
      graph = record { edges = numbered 0 es; next = length es };
      atoms = atoms;
      next = suc (length kinds);
      whole = true;
    }

-- the pair of two nodes
abbrev pub pair : ℕ → ℕ → Pair
pair l r = (node l, node r)

-- a side that is used up, and one with edges left
abbrev pub used_up : State → Half
used_up s = record { state = s; unused = [] }

-- a join of two states without an edge left
abbrev pub all_joined : State → State → Pairs → List Edge → Joining
all_joined left right pairs es = record { left = used_up left; right = used_up right; pairs = pairs; edges = es; closed = [] }

-- the same, where a side's edges do not count any more at a pair
abbrev pub all_joined_but : Side → Pair → State → State → Pairs → List Edge → Joining
all_joined_but side p left right pairs es =
    record { left = used_up left; right = used_up right; pairs = pairs; edges = es; closed = (side, p) ∷ [] }

-- ---- lists

-- a pointer
abbrev pub one_pointer : Kinds
one_pointer = (node 1, Ptr) ∷ []

-- the nodes of a cell and of what it points to
abbrev pub cell_kinds : Kinds
cell_kinds = (node 1, Ptr) ∷ (node 2, Int) ∷ (node 3, Ptr) ∷ []

-- a cell at node 1 that holds node 2 and points to node 3
abbrev pub cell : Edge
cell = Block (node 1) cell_id (Some (node 2) ∷ Some (node 3) ∷ [])

-- a list at a node
abbrev pub list_at : ℕ → Edge
list_at n = Ind (node n) list_id []

-- a segment of a list from a node to another
abbrev pub way : ℕ → ℕ → Edge
way n m = Seg (node n) [] list_id (node m) []

-- the variable is a list
abbrev pub a_list : State
a_list = state_of (Some (node 1) ∷ []) one_pointer (list_at 1 ∷ []) []

-- the variable is a cell that points to a list
abbrev pub a_cell : State
a_cell = state_of (Some (node 1) ∷ []) cell_kinds (cell ∷ list_at 3 ∷ []) []

-- the variable is a tree
abbrev pub a_tree : State
a_tree = state_of (Some (node 1) ∷ []) one_pointer (Ind (node 1) tree_id [] ∷ []) []

-- both variables are the start of a list
abbrev pub at_start : State
at_start = state_of (Some (node 1) ∷ Some (node 1) ∷ []) one_pointer (list_at 1 ∷ []) []

-- the first variable is a cell that points to a list, which the second variable is
abbrev pub one_on : State
one_on = state_of (Some (node 1) ∷ Some (node 3) ∷ []) cell_kinds (cell ∷ list_at 3 ∷ []) []

-- the first variable begins a segment to the second, which is a list
abbrev pub some_on : State
some_on = state_of (Some (node 1) ∷ Some (node 2) ∷ []) ((node 1, Ptr) ∷ (node 2, Ptr) ∷ []) (way 1 2 ∷ list_at 2 ∷ []) []

-- both variables are null
abbrev pub both_null : State
both_null = state_of (Some null ∷ Some null ∷ []) [] [] []

-- the variable is a list of a length, node 2
abbrev pub a_length : State
a_length = state_of (Some (node 1) ∷ []) ((node 1, Ptr) ∷ (node 2, Int) ∷ []) (Ind (node 1) lenlist_id (node 2 ∷ []) ∷ []) []

-- the variable is a cell that points to a list of a length, node 4, from 0 to 9
abbrev pub one_longer : State
one_longer =
    state_of (Some (node 1) ∷ []) ((node 1, Ptr) ∷ (node 2, Int) ∷ (node 3, Ptr) ∷ (node 4, Int) ∷ [])
    (cell ∷ Ind (node 3) lenlist_id (node 4 ∷ []) ∷ []) (In (node 4) (pos 0) (pos 9) ∷ [])

-- where the number one more has a node
abbrev pub with_longer : State
with_longer = with_atoms (with_nodes one_longer (Int ∷ [])) (Eq (node 5) (node 4) (pos 1) ∷ [])

-- ---- numbers

-- the variable is 0
abbrev pub at_zero : State
at_zero = state_of (Some null ∷ []) [] [] []

-- the variable is 1
abbrev pub at_one : State
at_one = state_of (Some (node 1) ∷ []) ((node 1, Int) ∷ []) [] (In (node 1) (pos 1) (pos 1) ∷ [])
