use Rattle.std.proofs.Common.{◌≡◌, drop}
use Rattle.mc_apply_steps.specs.Instructions.Arguments.{all_known}
use Rattle.mc_apply_steps.proofs.instructions.arguments.are_known.Given as goal

abbrev pub invariant-loop-o : goal.invariant-loop-o
invariant-loop-o l = all_known l.s (drop l.o-index l.os) ≡ all_known l.s l.os
