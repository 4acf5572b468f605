use Rattle.mc_lower.proofs.Agreeing.{fewer, no_more, stayed}
use Rattle.mc_lower.proofs.Waiting.{occurs_more}
use Rattle.mc_lower.proofs.builder.Builder.occur.Goals as goal

pub returns-clause-leads : goal.returns-clause-leads
returns-clause-leads c = λ w agrees.
    let b = c.args.self.now in
    let e = c.in_ok-occurrence.ensures in
    let points = no_more _ _ e.points in
    (fewer w b _ _ _ _ points (no_more _ _ e.marks) e.outs.1 agrees, stayed w b c.occur.new.self points e.goal)

pub returns-clause-same : goal.returns-clause-same
returns-clause-same c =
    let e = c.in_ok-occurrence.ensures in
    occurs_more c.args.self.now c.occur.new.self _ e.outs.0 e.last e.outs.1 e.waiting
