use Rattle.std.proofs.Common.{◌≡◌, length}
use Rattle.mc_judge.specs.declared.judge.stage.Stage.TheVariants.{Spent}
use Rattle.mc_judge.proofs.JudgeLemmas.Hearing.{Fed}
use Rattle.mc_judge.proofs.judge.judge.Judge.feed.Given as goal

abbrev pub invariant-loop-line : goal.invariant-loop-line
invariant-loop-line l = Fed l.piece l.rest l.fn.self l.self × (l.fn.self.stage ≡ Spent → l.self.stage ≡ Spent)

abbrev pub decreases-loop-line : goal.decreases-loop-line
decreases-loop-line l = length l.rest
