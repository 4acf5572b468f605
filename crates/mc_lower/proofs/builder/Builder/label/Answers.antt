use Rattle.mc_lower.proofs.Agreeing.{fewer, no_more, stayed}
use Rattle.mc_lower.proofs.Waiting.{waits_more}
use Rattle.mc_lower.proofs.builder.Builder.label.Goals as goal

pub returns-clause-kept : goal.returns-clause-kept
returns-clause-kept c = λ w agrees.
    let b = c.args.self.now in
    let e = c.in_ok-label.ensures in
    let points = no_more _ _ e.points in
    (fewer w b _ _ _ _ points (no_more _ _ e.marks) (no_more _ _ e.outs) agrees, stayed w b c.wait.new.self points e.goal)

pub returns-clause-known : goal.returns-clause-known
returns-clause-known c = waits_more c.args.self.now c.wait.new.self _ c.in_ok-label.ensures.outs c.in_ok-label.ensures.waiting
