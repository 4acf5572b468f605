use Rattle.std.proofs.Common.{sym}
use Rattle.mc_check_line.specs.Judging.{path}
use Rattle.mc_check_line.proofs.Answered.{stands}
use Rattle.mc_check_line.proofs.steps.step.Goals as goal

pub returns : goal.returns
returns c = λ k asked.
    let b = path c.args.branch in
    stands _ b _ _ (sym c.if-not-may_step.ensures) (c.answer_of.ensures _ b.state (c.step-given.ensures (k.know b.state) k.range asked.given.tells asked.given.ranges))
