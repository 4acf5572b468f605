use Rattle.std.proofs.Common.{◌≤◌, None, drop, length, map, reverse}
use Rattle.mc_shape_search.specs.Tries.Stack.{Pushes}
use Rattle.mc_cover.specs.Marks.{goal_of}
use Rattle.mc_cover.proofs.search.pushing.push_goals.Given as goal

abbrev pub invariant-loop-i : goal.invariant-loop-i
invariant-loop-i l = record {
  within : l.i ≤ length l.calls;
  pushed : Pushes (map (goal_of l.names None) (drop l.i l.calls)) (reverse l.fn.cells.items) (reverse l.cells.items) l.rest l.top;
}

abbrev pub decreases-loop-i : goal.decreases-loop-i
decreases-loop-i l = l.i
