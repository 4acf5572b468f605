use Rattle.std.proofs.Common.{◌≡◌}
use Rattle.mc_flow.specs.Defs.Conditions.{numbers_from}
use Rattle.mc_def_read.proofs.judged.numbers_between.Given as goal

abbrev pub invariant-loop-i : goal.invariant-loop-i
invariant-loop-i l = l.numbers ≡ numbers_from l.first l.i
