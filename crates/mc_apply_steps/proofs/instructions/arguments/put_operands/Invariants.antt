use Rattle.std.proofs.Common.{drop}
use Rattle.mc_apply_steps.proofs.InstructionsLemmas.Knowing.{AreLeft}
use Rattle.mc_apply_steps.proofs.instructions.arguments.put_operands.Given as goal

abbrev pub invariant-loop-o : goal.invariant-loop-o
invariant-loop-o l = AreLeft l.fn.s l.os l.s l.args (drop l.o-index l.os)
