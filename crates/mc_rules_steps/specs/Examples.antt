-- A small flow graph, states at its points, and configurations that stand for them.
use Rattle.std.specs.Prelude.{ℕ, ℤ, pos, negsuc, true, false, Option, Some, None, List, [], ◌∷◌, codes, get_or}
use Rattle.std.specs.FinMap as map
use Rattle.mc_base.specs.declared.ids.PointId.{PointId}
use Rattle.mc_base.specs.declared.ids.VarId.{VarId}
use Rattle.mc_base.specs.declared.plain.Atom.TheVariants.{In, Eq, Ne}
use Rattle.mc_base.specs.declared.plain.Kind.{Kind}
use Rattle.mc_base.specs.declared.plain.Kind.TheVariants.{Int, Ptr}
use Rattle.mc_base.specs.declared.plain.VarInfo.{VarInfo}
use Rattle.mc_base.specs.Nodes.{Valuation, null}
use Rattle.mc_flow.specs.Runs as runs
use Rattle.mc_flow.specs.Heap.Access.{fresh_block, with_field}
use Rattle.mc_flow.specs.Heap.Choices.{Choice}
use Rattle.mc_flow.specs.Heap.Heap.{Block, Heap}
use Rattle.mc_flow.specs.Defs.Examples.{defs, structs, cell_id, list_id, lenlist_id}
use Rattle.mc_flow.specs.declared.instr.Instr.{Instr}
use Rattle.mc_flow.specs.declared.instr.Instr.TheVariants as instr
use Rattle.mc_flow.specs.declared.instr.Operand.TheVariants.{Var, Const}
use Rattle.mc_flow.specs.declared.graph.Flow.{Flow}
use Rattle.mc_flow.specs.declared.graph.Point.{Point}
use Rattle.mc_flow.specs.Steps.{Config, Step}
use Rattle.mc_flow.specs.Values.{with_value}
use Rattle.mc_state.specs.declared.graph.edge.Edge.{Edge}
use Rattle.mc_state.specs.declared.graph.edge.Edge.TheVariants.{Block as BlockEdge, Ind}
use Rattle.mc_pure.specs.Examples.{node}
use Rattle.mc_state.specs.declared.goal.Goal.{Goal}
use Rattle.mc_state.specs.State.{State, with_var, with_nodes, with_atoms, with_edges, with_only_edges, with_number, with_block}
use Rattle.mc_rules_steps.specs.Next.{Next}
use Rattle.mc_rules_steps.specs.Steps.{moved_to}

-- ---- the flow graph

-- the variable with a number
abbrev pub var : ℕ → VarId
var n = record { 0 = n }

-- the point with a number
abbrev pub at : ℕ → PointId
at n = record { 0 = n }

-- the variables: struct cell *x, int y, int z, struct cell *t
abbrev pub x : VarId
x = var 0

-- the variable `int y`
abbrev pub y : VarId
y = var 1

-- the variable `int z`
abbrev pub z : VarId
z = var 2

-- the variable `struct cell *t`
abbrev pub t : VarId
t = var 3

-- a variable of this name and kind
abbrev pub named : List ℕ → Kind → VarInfo
named name kind = record { name = name; kind = kind }

-- the four variables
abbrev pub vars : List VarInfo
vars = named (codes "x") Ptr ∷ named (codes "y") Int ∷ named (codes "z") Int ∷ named (codes "t") Ptr ∷ []

-- the instruction, at some place of a text
abbrev pub point : Instr → Point
point code = record { code = code; place = record { line = 1; column = 1 } }

-- an instruction of each form, two more that are unmet, and a sum that wraps
abbrev pub code : List Instr
code =
    instr.Skip (at 1)
    ∷ instr.Copy t (Var x) (at 2)
    ∷ instr.Undef (z ∷ t ∷ []) (at 3)
    ∷ instr.Input z (at 4)
    ∷ instr.Add z (Var y) (Const (pos 1)) (at 5)
    ∷ instr.Sub z (Var y) (Const (pos 1)) (at 6)
    ∷ instr.Mul z (Var y) (Const (pos 1)) (at 7)
    ∷ instr.Load t x cell_id 1 (at 8)
    ∷ instr.Store x cell_id 0 (Var y) (at 9)
    ∷ instr.Malloc t cell_id (at 10)
    ∷ instr.Free (Const (pos 0)) (at 11)
    ∷ instr.Free (Var x) (at 12)
    ∷ instr.TestEq (Var x) (Const (pos 0)) (at 13) (at 14)
    ∷ instr.TestLe (Var y) (Const (pos 1)) (at 14) (at 15)
    ∷ instr.AssumeShape lenlist_id t (Const (pos 0) ∷ []) (at 15)
    ∷ instr.AssertShape list_id (Const (pos 0)) [] (at 16)
    ∷ instr.AssertEmpty (at 17)
    ∷ instr.End
    ∷ instr.Load z x cell_id 0 (at 19)
    ∷ instr.Copy z (Var z) (at 20)
    ∷ instr.Fail
    ∷ instr.Add z (Const (pos 2147483647)) (Const (pos 1)) (at 22)
    ∷ instr.End
    ∷ []

-- each instruction at a point of its own
abbrev pub points : List Instr → List Point
points [] = []
points (i ∷ is) = point i ∷ points is

-- the flow graph, with no loops
abbrev pub flow : Flow
flow = record { points = points code; vars = vars; heads = []; merges = []; thresholds = []; structs = record { list = structs } }

-- ---- states

-- the next pointer of the cell is null, and of its item nothing is known
abbrev pub cell : Edge
cell = BlockEdge (node 1) cell_id (None ∷ Some null ∷ [])

-- x is node 1, where the cell lies, and y is node 2, which goes from 5 to 7; nothing else is allocated
abbrev pub one_cell : State
one_cell =
    record {
      env = Some (node 1) ∷ Some (node 2) ∷ None ∷ None ∷ [];
      kinds = (node 1, Ptr) ∷ (node 2, Int) ∷ [];
      graph = record { edges = (record { 0 = 0 }, cell) ∷ []; next = 1 };
      atoms = In (node 2) (pos 5) (pos 7) ∷ [];
      next = 3;
      whole = true;
    }

-- node 3 is 1
abbrev pub with_one : State
with_one = with_number one_cell (pos 1)

-- node 3 is the greatest `int`, and node 4 is 1
abbrev pub with_greatest : State
with_greatest = with_number (with_number one_cell (pos 2147483647)) (pos 1)

-- y may be any number
abbrev pub any_number : State
any_number = record one_cell { atoms = [] }

-- nothing is allocated
abbrev pub no_cell : State
no_cell = with_only_edges one_cell []

-- it is not known whether something is
abbrev pub not_whole : State
not_whole = record no_cell { whole = false }

-- ---- configurations

-- x is 7, and y is a number
abbrev pub values : ℤ → List (Option ℤ)
values number = Some (pos 7) ∷ Some number ∷ None ∷ None ∷ []

-- node 1 is 7, node 2 a number, and node 3 is 1
abbrev pub valuation : ℤ → Valuation
valuation number n = get_or (pos 0 ∷ pos 7 ∷ number ∷ pos 1 ∷ []) n (pos 0)

-- a cell at 7 with an undefined item and a next pointer that is null
abbrev pub block : Block
block = record { shape = 0; fields = None ∷ Some (pos 0) ∷ [] }

-- a cell at 7
abbrev pub heap : Heap
heap = map.insert map.empty 7 block

-- the configuration at a point
abbrev pub config : ℕ → ℤ → Config
config p number = record { point = p; vars = values number; heap = heap }

-- and the one where nothing is allocated
abbrev pub bare : ℕ → ℤ → Config
bare p number = record { point = p; vars = values number; heap = map.empty }

-- the configuration where a variable has this value
abbrev pub config_with : ℕ → VarId → ℤ → Config
config_with p v number = record { point = p; vars = with_value (values (pos 5)) v (Some number); heap = heap }

-- and the one with this heap
abbrev pub config_on : ℕ → Heap → Config
config_on p other = record { point = p; vars = values (pos 5); heap = other }

-- the cell's item is 5
abbrev pub stored : Heap
stored = map.insert heap 7 (with_field block 0 (pos 5))

-- t points to a new cell at 9
abbrev pub allocated : Config
allocated = record { point = 10; vars = with_value (values (pos 5)) t (Some (pos 9)); heap = map.insert heap 9 (fresh_block 0 2) }

-- the configuration takes a step to another, by these choices
abbrev pub Goes : Config → List Choice → Config → Type 0
Goes c choices d = Step flow defs c choices (runs.next d [])

-- ---- successors

-- z is a new node
abbrev pub with_z : State → State
with_z s = with_var (with_nodes s (Int ∷ [])) z (Some (record { 0 = s.next }))

-- z is y plus 1, and goes from 6 to 8
abbrev pub after_sum : List Next
after_sum = moved_to (at 5) (with_atoms (with_z with_one) (In (node 4) (pos 6) (pos 8) ∷ Eq (node 4) (node 2) (pos 1) ∷ [])) ∷ []

-- z is the least `int`, since the sum wraps
abbrev pub after_wrap : List Next
after_wrap = moved_to (at 22) (with_atoms (with_z with_greatest) (In (node 5) (negsuc 2147483647) (negsuc 2147483647) ∷ [])) ∷ []

-- z is y minus 1, and goes from 4 to 6
abbrev pub after_difference : List Next
after_difference = moved_to (at 6) (with_atoms (with_z with_one) (In (node 4) (pos 4) (pos 6) ∷ Eq (node 4) (node 2) (negsuc 0) ∷ [])) ∷ []

-- z goes from 5 to 7
abbrev pub after_product : List Next
after_product = moved_to (at 7) (with_atoms (with_z with_one) (In (node 4) (pos 5) (pos 7) ∷ [])) ∷ []

-- the cell's item is y
abbrev pub after_store : List Next
after_store =
    moved_to (at 9) (record one_cell {
      graph = record {
        edges = (record { 0 = 0 }, BlockEdge (node 1) cell_id (Some (node 2) ∷ Some null ∷ []))
            ∷ [];
        next = 1;
      };
    }) ∷ []

-- t is null, or a new cell
abbrev pub after_malloc : List Next
after_malloc = moved_to (at 10) (with_var one_cell t (Some null))
    ∷ moved_to (at 10) (with_var (with_block one_cell cell_id 2) t (Some (node 3))) ∷ []

-- x is an address, where nothing lies
abbrev pub after_free : List Next
after_free = moved_to (at 12) (with_atoms no_cell (In (node 1) (pos 1) (pos 4611686018427387903) ∷ [])) ∷ []

-- x is null, or not
abbrev pub after_equal : List Next
after_equal = moved_to (at 13) (with_atoms one_cell (Eq (node 1) null (pos 0) ∷ []))
    ∷ moved_to (at 14) (with_atoms one_cell (Ne (node 1) null (pos 0) ∷ [])) ∷ []

-- y goes from 5 to 1, which is nowhere, or it goes from 5 to 7
abbrev pub after_at_most : List Next
after_at_most =
    moved_to (at 14) (with_atoms with_one (In (node 2) (pos 5) (pos 1) ∷ In (node 3) (pos 5) (pos 1) ∷ []))
    ∷ moved_to (at 15) (with_atoms with_one (In (node 2) (pos 5) (pos 7) ∷ In (node 3) (pos 1) (pos 1) ∷ Ne (node 2) (node 3) (pos 0) ∷ []))
    ∷ []

-- t is a list of length 0
abbrev pub after_assume : List Next
after_assume = moved_to (at 15) (with_var
    (with_edges (with_nodes one_cell (Ptr ∷ [])) (Ind (node 3) lenlist_id (null ∷ []) ∷ [])) t (Some (node 3))) ∷ []

-- null is to be a list
abbrev pub null_list : Goal
null_list = record { pred = list_id; at = null; args = [] }

-- the side branch, and the state as it was
abbrev pub after_assert : List Next
after_assert = record { point = at 15; goal = Some null_list; state = one_cell } ∷ moved_to (at 16) one_cell ∷ []
