use Rattle.std.proofs.Common.{◌≡◌, ◌≤◌, ◌++◌, None, drop, length, map, reverse}
use Rattle.mc_cover.specs.Marks.{goal_of}
use Rattle.mc_follow.proofs.ending.opening.push_calls.Given as goal

abbrev pub invariant-loop-i : goal.invariant-loop-i
invariant-loop-i l = record {
  within : l.i ≤ length l.calls;
  pushed : reverse l.left.items ≡ map (goal_of l.names None) (drop l.i l.calls) ++ reverse l.fn.left.items;
}

abbrev pub decreases-loop-i : goal.decreases-loop-i
decreases-loop-i l = l.i
