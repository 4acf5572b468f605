use Rattle.mc_lower.proofs.Meeting.{otherwise_there}
use Rattle.mc_lower.proofs.Waiting.{gone_on, popped}
use Rattle.std.proofs.Common.{ap}
use Rattle.mc_lower.proofs.builder.Builder.otherwise.Goals as goal

pub returns-clause-leads : goal.returns-clause-leads
returns-clause-leads c = λ w agrees.
    let gone = c.in_ok-go_last.ensures.leads w agrees in
    let goes = popped _ _ _ _ _ c.requires.1 c.in_ok-go_last.ensures.rest in
    (gone.0, otherwise_there (w.at c.args.no.0) (w.at c.args.merge.0) _ _ _ _ (ap (λ l. w.at l.0) goes.0) gone.1)

pub returns-clause-rest : goal.returns-clause-rest
returns-clause-rest c = gone_on _ _ _ _ _ c.requires.1 c.in_ok-go_last.ensures.rest

pub go_last-requires : goal.go_last-requires
go_last-requires c = (c.args.no, c.requires.0, c.requires.1)
