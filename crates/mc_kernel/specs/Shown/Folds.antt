-- Two segments that are not joined, and a node that is not forgotten for what a side branch has to show.
use Rattle.std.specs.Prelude.{◌≡◌, pos, true, false, Some, List, [], ◌∷◌, Err, ℕ}
use Rattle.mc_base.specs.declared.ids.NodeId.{NodeId}
use Rattle.mc_base.specs.declared.plain.Atom.TheVariants.{In}
use Rattle.mc_base.specs.declared.plain.Kind.TheVariants.{Int, Ptr}
use Rattle.mc_base.specs.Nodes.{null}
use Rattle.mc_lines.specs.declared.cert.line.Line.TheVariants.{L11}
use Rattle.mc_flow.specs.Defs.Examples.{defs, lenlist_id}
use Rattle.mc_state.specs.declared.graph.edge.Edge.TheVariants.{Seg}
use Rattle.mc_state.specs.Known.{Tells}
use Rattle.mc_pure.specs.Examples.{node}
use Rattle.mc_state.specs.declared.goal.Goal.{Goal}
use Rattle.mc_state.specs.State.{State, with_atom}
use Rattle.mc_kernel.specs.Branches.{Path}
use Rattle.mc_kernel.specs.Examples.{at, edge}
use Rattle.mc_kernel.specs.Judges.{Knowledge, judged_line}
use Rattle.mc_kernel.specs.Shown.Jumps.{flow, setting}

-- a segment that ends where another begins: of a list of length node 2 there, and of one of length node 3
abbrev pub lengths_differ : State
lengths_differ =
    record {
      env = [];
      kinds = (node 1, Ptr) ∷ (node 2, Int) ∷ (node 3, Int) ∷ [];
      graph =
          record {
            edges =
                (edge 0, Seg (node 1) (node 2 ∷ []) lenlist_id (node 1) (node 2 ∷ []))
                ∷ (edge 1, Seg (node 1) (node 3 ∷ []) lenlist_id null (null ∷ [])) ∷ [];
            next = 2;
          };
      atoms = [];
      next = 4;
      whole = true;
    }

-- a pointer and a number that no variable and no edge names
abbrev pub unnamed : State
unnamed =
    record {
      env = [];
      kinds = (node 1, Ptr) ∷ (node 2, Int) ∷ [];
      graph = record { edges = []; next = 0 };
      atoms = [];
      next = 3;
      whole = true;
    }

-- a list of length node 2 at node 1 has to be shown
abbrev pub length_goal : Goal
length_goal = record { pred = lenlist_id; at = node 1; args = node 2 ∷ [] }

-- a side branch with this goal
abbrev pub side : State → Path
side s = record { point = at 1; state = s; goal = Some length_goal; moved = true; closing = false }

-- ["L11",node] fails a premise at a branch, whatever tells what is entailed there
abbrev pub NotForgotten : Path → NodeId → ℕ → Type 0
NotForgotten b n premise =
    (k : Knowledge) → Tells (k.know b.state) b.state → judged_line k flow defs setting (L11 n) b ≡ Err premise

-- the number lies from 5 to 4
abbrev pub false_unnamed : State
false_unnamed = with_atom unnamed (In (node 2) (pos 5) (pos 4))
