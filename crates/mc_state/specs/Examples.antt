-- Worked states: a list in two parts, and a block with two names.
use Rattle.std.specs.Prelude.{ℕ, zero, suc, ℤ, pos, true, Option, Some, None, List, [], ◌∷◌, get_or}
use Rattle.mc_base.specs.declared.ids.EdgeId.{EdgeId}
use Rattle.mc_base.specs.declared.plain.Kind.TheVariants.{Int, Ptr}
use Rattle.mc_base.specs.declared.plain.Atom.TheVariants.{Eq, In}
use Rattle.mc_base.specs.Nodes.{Valuation}
use Rattle.mc_flow.specs.Defs.Examples.{cell_id, list_id}
use Rattle.mc_state.specs.declared.graph.edge.Edge.{Edge}
use Rattle.mc_state.specs.declared.graph.edge.Edge.TheVariants.{Block, Ind, Seg}
use Rattle.mc_state.specs.Graph.Graph.{Graph}
use Rattle.mc_pure.specs.Examples.{node}
use Rattle.mc_pure.specs.Pure.{Kinds}
use Rattle.mc_state.specs.State.{State, with_atom, renamed}
use Rattle.mc_state.specs.Laws.{moved_kinds}

-- the edge with a number
abbrev pub edge : ℕ → EdgeId
edge n = record { 0 = n }

-- ---- a list in two parts

-- a segment from node 1 to node 2, and a list at node 2
abbrev pub front : Edge
front = Seg (node 1) [] list_id (node 2) []

-- a list at node 2
abbrev pub back : Edge
back = Ind (node 2) list_id []

-- the segment, and the list at its end
abbrev pub front_and_back : Graph
front_and_back = record { edges = (edge 0, front) ∷ (edge 1, back) ∷ []; next = 2 }

-- the only variable is node 1, and nothing but the two parts is allocated
abbrev pub list_in_parts : State
list_in_parts = record {
  env = Some (node 1) ∷ [];
  kinds = (node 1, Ptr) ∷ (node 2, Ptr)
      ∷ [];
  graph = front_and_back;
  atoms = [];
  next = 3;
  whole = true;
}

-- the variable and node 1 are 7, and node 2 is 9
abbrev pub at_seven : List (Option ℤ)
at_seven = Some (pos 7) ∷ []

-- node 1 is 7 and node 2 is 9
abbrev pub seven_and_nine : Valuation
seven_and_nine n = get_or (pos 0 ∷ pos 7 ∷ pos 9 ∷ []) n (pos 0)

-- of the cell at node 2 nothing is known but that it is there
abbrev pub back_cell : Edge
back_cell = Block (node 2) cell_id (None ∷ None ∷ [])

-- each node but node 0 goes to the next number
abbrev pub raised : ℕ → ℕ
raised zero = zero
raised (suc n) = suc (suc n)

-- the kinds of the raised nodes
abbrev pub raised_kinds : Kinds
raised_kinds = moved_kinds raised list_in_parts.kinds

-- the list in two parts, with raised nodes
abbrev pub raised_list : State
raised_list = renamed raised raised_kinds 4 list_in_parts

-- nodes 2 and 3 are 7 and 9
abbrev pub two_and_three : Valuation
two_and_three n = get_or (pos 0 ∷ pos 0 ∷ pos 7 ∷ pos 9 ∷ []) n (pos 0)

-- ---- a block with two names

-- a cell at node 1, of which nothing is known
abbrev pub one_cell : Graph
one_cell = record { edges = (edge 0, Block (node 1) cell_id (None ∷ None ∷ [])) ∷ []; next = 1 }

-- the variables are nodes 1 and 2, which are equal; node 3 has no name, and nothing but the cell is allocated
abbrev pub two_names : State
two_names =
    record {
      env = Some (node 1) ∷ Some (node 2) ∷ [];
      kinds = (node 1, Ptr) ∷ (node 2, Ptr) ∷ (node 3, Int) ∷ [];
      graph = one_cell;
      atoms = Eq (node 2) (node 1) (pos 0) ∷ [];
      next = 4;
      whole = true;
    }

-- the same with node 1 in place of node 2
abbrev pub one_name : State
one_name =
    record {
      env = Some (node 1) ∷ Some (node 1) ∷ [];
      kinds = (node 1, Ptr) ∷ (node 3, Int) ∷ [];
      graph = one_cell;
      atoms = Eq (node 1) (node 1) (pos 0) ∷ [];
      next = 4;
      whole = true;
    }

-- the variables and nodes 1 and 2 are 7, and node 3 is 5
abbrev pub both_at_seven : List (Option ℤ)
both_at_seven = Some (pos 7) ∷ Some (pos 7) ∷ []

-- nodes 1 and 2 are 7, and node 3 is 5
abbrev pub sevens : Valuation
sevens n = get_or (pos 0 ∷ pos 7 ∷ pos 7 ∷ pos 5 ∷ []) n (pos 0)

-- node 3 lies from 5 to 4
abbrev pub no_number : State
no_number = with_atom two_names (In (node 3) (pos 5) (pos 4))
