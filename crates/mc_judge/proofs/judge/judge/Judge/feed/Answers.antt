use Rattle.mc_judge.proofs.JudgeLemmas.Hearing.{fed_line}
use Rattle.mc_judge.proofs.judge.judge.Judge.feed.Goals as goal

pub loop-line-preserved : goal.loop-line-preserved
loop-line-preserved c = (
  fed_line c.args.piece.now c.loop-line.rest.now c.in-Some.line.now c.in-Some.more.now c.args.self.now c.loop-line.self c.close.new.self
      c.loop-line.invariant.0 c.in-Some.ensures.1 c.in_ok-close.ensures.heard c.close.ensures.same,
  λ spent. absurd (c.in_ok-close.ensures.unspent (c.loop-line.invariant.1 spent)),
)
