use Rattle.std.proofs.Common.{◌≡◌, ℕ, ◌<◌, ◌≤◌, drop, length, true, false}
use Rattle.mc_c_check.specs.Graphs.{IsClosed, Keeps, LeadsToMarked, unmarked}
use Rattle.mc_c_check.proofs.graph.spread.Given as goal

abbrev pub invariant-loop-left : goal.invariant-loop-left
invariant-loop-left l = record {
  within : l.left ≤ length l.edges;
  sound : (from : ℕ) → LeadsToMarked l.edges from l.initial.marks → LeadsToMarked l.edges from l.marks;
  kept : Keeps l.initial.marks l.marks;
  closed : l.more ≡ false → IsClosed (drop l.left l.edges) l.marks;
  fewer : unmarked l.marks ≤ unmarked l.initial.marks;
  less : l.more ≡ true → unmarked l.marks < unmarked l.initial.marks;
}

abbrev pub decreases-loop-left : goal.decreases-loop-left
decreases-loop-left l = l.left
