-- A small program that reads what it freed, its two branches to the read, and its chain, in which both are stuck.
use Rattle.std.specs.Prelude.{true, Some, None, List, [], ◌∷◌}
use Rattle.mc_base.specs.declared.plain.Kind.TheVariants.{Int, Ptr}
use Rattle.mc_base.specs.declared.plain.VarInfo.{VarInfo}
use Rattle.mc_base.specs.Nodes.{null}
use Rattle.mc_flow.specs.Defs.Examples.{cell_id}
use Rattle.mc_flow.specs.declared.graph.Flow.{Flow}
use Rattle.mc_flow.specs.declared.instr.Instr.{Instr}
use Rattle.mc_flow.specs.declared.instr.Instr.TheVariants as instr
use Rattle.mc_flow.specs.declared.instr.Operand.TheVariants.{Var}
use Rattle.mc_pure.specs.Examples.{node}
use Rattle.mc_pure.specs.Pure.{address_atom}
use Rattle.mc_state.specs.State.{State, unknown, with_var}
use Rattle.mc_lines.specs.declared.cert.line.Line.{Line}
use Rattle.mc_lines.specs.declared.cert.line.Line.TheVariants as line
use Rattle.mc_state.specs.declared.line.Form.TheVariants.{Chain}
use Rattle.mc_state.specs.declared.line.InstrRule.TheVariants.{S10, S11, S12}
use Rattle.mc_state.specs.declared.line.Version.TheVariants.{One}
use Rattle.mc_kernel.specs.Branches.{path_to}
use Rattle.mc_kernel.specs.Examples.{at, flow_of, var}
use Rattle.mc_exact.specs.Marks.{Alarm}
use Rattle.mc_exact.specs.Tracks.{Track}

-- struct cell *p = malloc(sizeof(struct cell)); free(p); int d = p->data;

-- p, and d
abbrev pub freed_vars : List VarInfo
freed_vars = record { name = []; kind = Ptr } ∷ record { name = []; kind = Int } ∷ []

-- its instructions
abbrev pub freed_code : List Instr
freed_code =
    instr.Malloc (var 0) cell_id (at 1)
    ∷ instr.Free (Var (var 0)) (at 2)
    ∷ instr.Load (var 1) (var 0) cell_id 0 (at 3)
    ∷ instr.End
    ∷ []

-- its flow graph
abbrev pub freed_flow : Flow
freed_flow = flow_of freed_vars [] freed_code

-- p is null
abbrev pub null_state : State
null_state = with_var (unknown 2) (var 0) (Some null)

-- p is node 1, an address, and nothing is allocated
abbrev pub freed_state : State
freed_state =
    record {
      env = Some (node 1) ∷ None ∷ [];
      kinds = (node 1, Ptr) ∷ [];
      graph = record { edges = []; next = 1 };
      atoms = address_atom (node 1) ∷ [];
      next = 2;
      whole = true;
    }

-- the branch to the read on which malloc answered null
abbrev pub null_track : Track
null_track = (path_to (at 2) null_state None, None ∷ [])

-- and the one on which it answered a new block
abbrev pub freed_track : Track
freed_track = (path_to (at 2) freed_state None, Some (node 1) ∷ [])

-- its chain: on each branch the free is passed, and the read is stuck
abbrev pub freed_chain : List Line
freed_chain =
    line.Header One Chain
    ∷ line.Pass
    ∷ line.Step S10
    ∷ line.Step S11
    ∷ line.C1
    ∷ line.Step S12
    ∷ line.C1
    ∷ line.End
    ∷ []

-- its alarms: malloc answers null, and it answers the first address
abbrev pub freed_alarms : List Alarm
freed_alarms = (null_track.0, Some (0 ∷ [])) ∷ (freed_track.0, Some (1 ∷ [])) ∷ []
