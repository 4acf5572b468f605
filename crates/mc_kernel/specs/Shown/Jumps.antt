-- A jump, and jumps of which each premise once is the first that is unmet.
use Rattle.std.specs.Prelude.{◌≡◌, pos, true, false, Some, None, List, [], ◌∷◌, Ok, Err, ℕ}
use Rattle.mc_base.specs.declared.ids.EdgeId.{EdgeId}
use Rattle.mc_base.specs.declared.ids.NodeId.{NodeId}
use Rattle.mc_base.specs.declared.plain.Atom.TheVariants.{In}
use Rattle.mc_base.specs.declared.plain.Kind.TheVariants.{Int}
use Rattle.mc_lines.specs.declared.cert.line.Line.TheVariants.{L13}
use Rattle.mc_flow.specs.Defs.Examples.{defs, list_id}
use Rattle.mc_flow.specs.declared.graph.Flow.{Flow}
use Rattle.mc_flow.specs.declared.instr.Instr.TheVariants as instr
use Rattle.mc_state.specs.declared.graph.edge.Edge.TheVariants.{Ind}
use Rattle.mc_state.specs.Known.{Tells}
use Rattle.mc_pure.specs.Examples.{node}
use Rattle.mc_state.specs.declared.line.Form.TheVariants.{Certificate}
use Rattle.mc_state.specs.declared.goal.Goal.{Goal}
use Rattle.mc_state.specs.Examples.{two_names}
use Rattle.mc_state.specs.State.{State}
use Rattle.mc_kernel.specs.Branches.{Path, Setting}
use Rattle.mc_kernel.specs.Examples.{at, edge, flow_of, one_name_head}
use Rattle.mc_kernel.specs.Judges.{Knowledge, judged_line}

-- a loop that never ends: its head is point 1
abbrev pub flow : Flow
flow = flow_of [] (at 1 ∷ []) (instr.Skip (at 1) ∷ instr.Skip (at 1) ∷ [])

-- in place of the cell a list
abbrev pub list_head : State
list_head = record one_name_head { graph = record { edges = (edge 0, Ind (node 1) list_id []) ∷ []; next = 1 } }

-- the node lies from 1 to 3
abbrev pub near_head : State
near_head = record one_name_head { atoms = In (node 1) (pos 1) (pos 3) ∷ [] }

-- no cell
abbrev pub bare_head : State
bare_head = record one_name_head { graph = record { edges = []; next = 0 } }

-- node 1 is a number, which no variable has
abbrev pub number_head : State
number_head =
    record {
      env = None ∷ None ∷ [];
      kinds = (node 1, Int) ∷ [];
      graph = record { edges = []; next = 0 };
      atoms = [];
      next = 2;
      whole = false;
    }

-- point 1 is a cut with these states
abbrev pub setting : Setting
setting =
    record {
      form = Certificate;
      cuts = at 1 ∷ [];
      heads =
          (at 1, one_name_head) ∷ (at 1, list_head) ∷ (at 1, near_head) ∷ (at 1, bare_head) ∷ (at 1, number_head) ∷ [];
    }

-- a branch that has come to the cut with a state
abbrev pub arrived : State → Path
arrived s = record { point = at 1; state = s; goal = None; moved = true; closing = false }

-- the cell has two names, and other memory may be allocated
abbrev pub not_whole : State
not_whole = record two_names { whole = false }

-- the goal of a list at node 1
abbrev pub list_goal : Goal
list_goal = record { pred = list_id; at = node 1; args = [] }

-- ["L13",j,images,edges] fails a premise at a branch, whatever tells what is entailed there
abbrev pub FailsAt : Path → ℕ → List NodeId → List EdgeId → ℕ → Type 0
FailsAt b j images edges premise =
    (k : Knowledge) → Tells (k.know b.state) b.state
    → judged_line k flow defs setting (L13 j images edges) b ≡ Err premise

-- ["L13",j,images,edges] ends a branch
abbrev pub EndsBy : Path → ℕ → List NodeId → List EdgeId → Type 0
EndsBy b j images edges =
    (k : Knowledge) → Tells (k.know b.state) b.state → judged_line k flow defs setting (L13 j images edges) b ≡ Ok []

-- the second variable is unknown
abbrev pub half_known : State
half_known = record two_names { env = Some (node 1) ∷ None ∷ [] }

-- the branch before an instruction's line stands on it
abbrev pub before_step : Path
before_step = record (arrived two_names) { moved = false }

-- a side branch
abbrev pub on_side : Path
on_side = record (arrived two_names) { goal = Some list_goal }

-- the branch at a point that is no cut
abbrev pub elsewhere : Path
elsewhere = record (arrived two_names) { point = at 0 }
