-- Premises that are unmet at the states of the small flow graph, and ranges by hand.
use Rattle.std.specs.Prelude.{◌≡◌, ℕ, ℤ, pos, negsuc, List, [], ◌∷◌, ◌++◌, Option, Some, None, Ok, Err}
use Rattle.mc_base.specs.declared.ids.NodeId.{NodeId}
use Rattle.mc_base.specs.declared.ids.PointId.{PointId}
use Rattle.mc_base.specs.declared.ids.PredId.{PredId}
use Rattle.mc_base.specs.declared.plain.Kind.TheVariants.{Int, Ptr}
use Rattle.mc_base.specs.declared.plain.Atom.{Atom}
use Rattle.mc_base.specs.Nodes.{null}
use Rattle.mc_state.specs.declared.graph.edge.Edge.TheVariants.{Seg}
use Rattle.mc_state.specs.Known.{Test, Tells}
use Rattle.mc_pure.specs.Examples.{node}
use Rattle.mc_state.specs.declared.line.InstrRule.{InstrRule}
use Rattle.mc_state.specs.State.{State}
use Rattle.mc_rules_steps.specs.Next.{Next}
use Rattle.mc_rules_steps.specs.Examples.{flow, one_cell, with_one}
use Rattle.mc_rules_steps.specs.Judges.{stepping}
use Rattle.mc_rules_steps.specs.Sums.{Ends, Ranges, Operation, result_atoms, at_most_atoms, above_atoms}

-- the numbers from one to another
abbrev pub from_to : ℤ → ℤ → Ends
from_to lo hi = record { lo = lo; hi = hi }

-- one number
abbrev pub only : ℤ → Ends
only z = from_to z z

-- whatever tells what is entailed, this premise of the rule is the first that is unmet
abbrev pub IsFirstUnmet : InstrRule → PointId → State → ℕ → Type 0
IsFirstUnmet rule p s k = (know : Test) (range : Ranges) → Tells know s → stepping know range flow rule p s ≡ Err k

-- whatever tells what is entailed, the rule gives these successors
abbrev pub Gives : InstrRule → PointId → State → List Next → Type 0
Gives rule p s next = (know : Test) (range : Ranges) → Tells know s → stepping know range flow rule p s ≡ Ok next

-- so it does where y goes from 5 to 7 and node 3 is 1
abbrev pub GivesByRanges : InstrRule → PointId → State → List Next → Type 0
GivesByRanges rule p s next =
    (know : Test) (range : Ranges) → Tells know s → range with_one (node 2) ≡ from_to (pos 5) (pos 7)
    → range with_one (node 3) ≡ only (pos 1)
    → stepping know range flow rule p s ≡ Ok next

-- the state of one cell, where the variables have these nodes
abbrev pub with_env : List (Option NodeId) → State
with_env env = record one_cell { env = env }

-- y is known, and x is not
abbrev pub without_x : State
without_x = with_env (None ∷ Some (node 2) ∷ None ∷ None ∷ [])

-- x is known, and y is not
abbrev pub without_y : State
without_y = with_env (Some (node 1) ∷ None ∷ None ∷ None ∷ [])

-- the greatest `int`, and the least one
abbrev pub greatest : ℤ
greatest = pos 2147483647

-- the least `int`
abbrev pub least : ℤ
least = negsuc 2147483647

-- what is known of node 3, a result of nodes 1 and 2 in these ranges
abbrev pub known_result : Operation → Ends → Ends → List Atom
known_result op left right = result_atoms op (node 3) left right ++ op.offsets (node 3) (node 1) (node 2) left right

-- what is known of nodes 1 and 2 in these ranges, where the first is at most the second
abbrev pub known_at_most : Ends → Ends → List Atom
known_at_most left right = at_most_atoms (node 1) (node 2) left right

-- and where it is greater
abbrev pub known_above : Ends → Ends → List Atom
known_above left right = above_atoms (node 1) (node 2) left right

-- x is node 1, and a segment from node 3 to null has node 1 as the argument of its end, which is the node before it
abbrev pub with_segment : PredId → State
with_segment pred =
    record one_cell {
      kinds = (node 1, Ptr) ∷ (node 2, Int) ∷ (node 3, Ptr) ∷ [];
      graph = record { edges = (record { 0 = 0 }, Seg (node 3) (null ∷ []) pred null (node 1 ∷ [])) ∷ []; next = 1 };
      next = 4;
    }
