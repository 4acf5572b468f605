use Rattle.mc_lower.proofs.Agreeing.{fewer, laid, no_more, put_there}
use Rattle.mc_lower.proofs.builder.Builder.append.Goals as goal

pub returns-clause-leads : goal.returns-clause-leads
returns-clause-leads c = λ w agrees.
    let b = c.args.self.now in
    let e = c.in_ok-put.ensures in
    let put = put_there w b _ c.args.role c.args.place c.args.code e.points e.marks agrees in
    (fewer w b _ _ _ _ e.points e.marks (no_more _ _ e.outs) agrees, laid w b _ c.args.role c.args.place c.args.code _ e.goal put)
