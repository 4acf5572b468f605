use Rattle.std.proofs.Common.{refl, arith}
use Rattle.mc_pure_ops.proofs.CanonLemmas.Moving.{starts_more, starts_no}
use Rattle.mc_pure_ops.proofs.canon.gaps.starts_give.Goals as goal

pub loop-i-preserved : goal.loop-i-preserved
loop-i-preserved c = starts_more c.args.pure.now c.args.starts.now c.args.gap.now c.loop-i.i c.loop-i.invariant (c.if-start_gives.ensures.no refl)

pub returns-clause-no : goal.returns-clause-no
returns-clause-no c = λ _. starts_no c.args.pure.now c.args.starts.now c.args.gap.now c.loop-i.i (omega arith) c.loop-i.invariant
