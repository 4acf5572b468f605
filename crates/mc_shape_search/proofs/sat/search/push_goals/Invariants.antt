use Rattle.std.proofs.Common.{◌≤◌, drop, length, map, reverse}
use Rattle.mc_shape_search.specs.Tries.Stack.{Pushes}
use Rattle.mc_shape_search.specs.Sat.Marks.{goal_of}
use Rattle.mc_shape_search.proofs.sat.search.push_goals.Given as goal

abbrev pub invariant-loop-i : goal.invariant-loop-i
invariant-loop-i l = record {
  within : l.i ≤ length l.calls;
  pushed : Pushes (map (goal_of l.names) (drop l.i l.calls)) (reverse l.fn.cells.items) (reverse l.cells.items) l.rest l.top;
}

abbrev pub decreases-loop-i : goal.decreases-loop-i
decreases-loop-i l = l.i
