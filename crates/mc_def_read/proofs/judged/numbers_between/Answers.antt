use Rattle.mc_def_read.proofs.Sayings.{numbers_next}
use Rattle.mc_def_read.proofs.judged.numbers_between.Goals as goal

pub loop-i-preserved : goal.loop-i-preserved
loop-i-preserved c = rw (c.in_ok-push.ensures.ok, c.loop-i.invariant) (numbers_next c.args.first c.loop-i.i)
