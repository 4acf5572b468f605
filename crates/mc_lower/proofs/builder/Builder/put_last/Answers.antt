use Rattle.mc_lower.proofs.Agreeing.{fewer, no_more, put_there}
use Rattle.mc_lower.proofs.Waiting.{one_less, waiting_of}
use Rattle.mc_lower.proofs.builder.Builder.put_last.Goals as goal

pub returns-clause-leads : goal.returns-clause-leads
returns-clause-leads c = λ w agrees.
    let b = c.args.self.now in
    let e = c.in_ok-put_last.ensures in
    (fewer w b _ _ _ _ e.points e.marks (no_more _ _ e.outs) agrees, put_there w b _ c.args.role c.args.place c.args.code e.points e.marks agrees)

pub returns-clause-rest : goal.returns-clause-rest
returns-clause-rest c = one_less c.args.self.now c.put_last.new.self c.in_ok-put_last.ensures.outs c.in_ok-put_last.ensures.waiting

pub put_last-requires : goal.put_last-requires
put_last-requires c = waiting_of _ c.requires
