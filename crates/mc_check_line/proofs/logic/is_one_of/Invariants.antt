use Rattle.std.proofs.Common.{◌≡◌, drop}
use Rattle.mc_kernel.specs.Judges.{is_one_of}
use Rattle.mc_check_line.proofs.logic.is_one_of.Given as goal

abbrev pub invariant-loop-other : goal.invariant-loop-other
invariant-loop-other l = is_one_of l.node (drop l.other-index l.nodes) ≡ is_one_of l.node l.nodes
