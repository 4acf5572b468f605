use Rattle.mc_lower.proofs.Agreeing.{fewer, gone, no_more}
use Rattle.mc_lower.proofs.builder.Builder.go.Goals as goal

pub returns-clause-leads : goal.returns-clause-leads
returns-clause-leads c = λ w agrees.
    let b = c.args.self.now in
    let e = c.in_ok-go.ensures in
    let points = no_more _ _ e.points in
    (fewer w b _ _ _ _ points e.marks (no_more _ _ e.outs) agrees, gone w b _ c.args.label points e.marks agrees)
