-- A state that is tidy, and one for each way not to be.
use Rattle.std.specs.Prelude.{pos, true, Some, None, [], ◌∷◌}
use Rattle.mc_base.specs.declared.plain.Atom.TheVariants.{Eq, In}
use Rattle.mc_base.specs.declared.plain.Kind.TheVariants.{Int, Ptr}
use Rattle.mc_base.specs.Nodes.{null}
use Rattle.mc_flow.specs.Defs.Examples.{cell_id}
use Rattle.mc_state.specs.declared.graph.edge.Edge.TheVariants.{Block}
use Rattle.mc_state.specs.Graph.Graph.{Edges}
use Rattle.mc_pure.specs.Examples.{node}
use Rattle.mc_state.specs.State.{State, with_atom}

-- a cell at node 1 that holds node 2 and null
abbrev pub last_cell : Edges
last_cell = (record { 0 = 0 }, Block (node 1) cell_id (Some (node 2) ∷ Some null ∷ [])) ∷ []

-- the only variable is the cell's node
abbrev pub tidy : State
tidy =
    record {
      env = Some (node 1) ∷ [];
      kinds = (node 1, Ptr) ∷ (node 2, Int) ∷ [];
      graph = record { edges = last_cell; next = 1 };
      atoms = [];
      next = 3;
      whole = true;
    }

-- the number in the cell lies from 5 to 4, so the state is false
abbrev pub with_no_number : State
with_no_number = with_atom tidy (In (node 2) (pos 5) (pos 4))

-- no variable has the cell's node, so the cell can be dropped
abbrev pub with_lost_cell : State
with_lost_cell = record tidy { env = None ∷ [] }

-- another node is equal to the number in the cell, so one can stand for both
abbrev pub with_second_name : State
with_second_name =
    record {
      env = Some (node 1) ∷ [];
      kinds = (node 1, Ptr) ∷ (node 2, Int) ∷ (node 3, Int) ∷ [];
      graph = record { edges = last_cell; next = 1 };
      atoms = Eq (node 3) (node 2) (pos 0) ∷ [];
      next = 4;
      whole = true;
    }

-- the number in the cell is null, so null can stand for it
abbrev pub with_zero : State
with_zero = with_atom tidy (Eq (node 2) null (pos 0))

-- another node is the number in the cell and one more, which merges nothing
abbrev pub with_offset : State
with_offset =
    record {
      env = Some (node 1) ∷ [];
      kinds = (node 1, Ptr) ∷ (node 2, Int) ∷ (node 3, Int) ∷ [];
      graph = record { edges = last_cell; next = 1 };
      atoms = Eq (node 3) (node 2) (pos 1) ∷ [];
      next = 4;
      whole = true;
    }
