use Rattle.std.proofs.Common.{ℕ}
use Rattle.mc_c_check.specs.Graphs.{Keeps, LeadsToMarked}
use Rattle.mc_c_check.proofs.graph.spread_along.Given as goal

abbrev pub invariant-loop-call : goal.invariant-loop-call
invariant-loop-call l = record {
  sound : (from : ℕ) → LeadsToMarked l.edges from l.initial.marks → LeadsToMarked l.edges from l.marks;
  kept : Keeps l.initial.marks l.marks;
}
