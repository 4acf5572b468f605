use Rattle.std.proofs.Common.{take}
use Rattle.mc_c_check.specs.Graphs.{NeverRise}
use Rattle.mc_c_check.proofs.levels.never_rise.Given as goal

abbrev pub invariant-loop-edge : goal.invariant-loop-edge
invariant-loop-edge l = NeverRise (take l.edge-index l.edges) l.levels
