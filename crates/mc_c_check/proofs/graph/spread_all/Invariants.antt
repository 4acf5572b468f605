use Rattle.std.proofs.Common.{ℕ}
use Rattle.mc_c_check.specs.Graphs.{Keeps, LeadsToMarked, unmarked}
use Rattle.mc_c_check.proofs.graph.spread_all.Given as goal

abbrev pub invariant-loop : goal.invariant-loop
invariant-loop l = record {
  sound : (from : ℕ) → LeadsToMarked l.edges from l.initial.marks → LeadsToMarked l.edges from l.marks;
  kept : Keeps l.initial.marks l.marks;
}

abbrev pub decreases-loop : goal.decreases-loop
decreases-loop l = unmarked l.marks
