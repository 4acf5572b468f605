use Rattle.mc_lower.proofs.Agreeing.{fewer, gone, no_more}
use Rattle.mc_lower.proofs.Waiting.{one_less, waiting_of}
use Rattle.mc_lower.proofs.builder.Builder.go_last.Goals as goal

pub returns-clause-leads : goal.returns-clause-leads
returns-clause-leads c = λ w agrees.
    let b = c.args.self.now in
    let e = c.in_ok-go_last.ensures in
    let points = no_more _ _ e.points in
    (fewer w b _ _ _ _ points e.marks (no_more _ _ e.outs) agrees, gone w b _ c.args.label points e.marks agrees)

pub returns-clause-rest : goal.returns-clause-rest
returns-clause-rest c = one_less c.args.self.now c.go_last.new.self c.in_ok-go_last.ensures.outs c.in_ok-go_last.ensures.waiting

pub go_last-requires : goal.go_last-requires
go_last-requires c = waiting_of _ c.requires
