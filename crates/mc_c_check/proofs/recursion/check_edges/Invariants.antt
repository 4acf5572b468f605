use Rattle.std.proofs.Common.{take}
use Rattle.mc_c_check.specs.Told.{IsToldWith}
use Rattle.mc_c_check.proofs.recursion.check_edges.Given as goal

abbrev pub invariant-loop-edge : goal.invariant-loop-edge
invariant-loop-edge l = IsToldWith l.edges (take l.edge-index l.edges) l.initial.told.fault l.told.fault
