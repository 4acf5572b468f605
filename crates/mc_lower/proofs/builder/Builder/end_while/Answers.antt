use Rattle.std.proofs.Common.{ap}
use Rattle.mc_lower.proofs.Meeting.{exits_there}
use Rattle.mc_lower.proofs.Waiting.{gone_on, popped, under}
use Rattle.mc_lower.proofs.builder.Builder.end_while.Goals as goal

pub returns-clause-leads : goal.returns-clause-leads
returns-clause-leads c = λ w agrees.
    let skipped = c.in_ok-skip.ensures.leads w agrees in
    let gone = c.in_ok-go_last.ensures.leads w skipped.0 in
    let goes = popped _ _ _ _ _ c.requires.1 c.in_ok-go_last.ensures.rest in
    (gone.0, exits_there w.graph c.args.place (w.at c.args.head.0) (w.at c.args.exit.0) _ _ _ _ _ (ap (λ l. w.at l.0) goes.0) gone.1 skipped.1)

pub returns-clause-rest : goal.returns-clause-rest
returns-clause-rest c = under _ _ _ _ (gone_on _ _ _ _ _ c.requires.1 c.in_ok-go_last.ensures.rest) c.in_ok-skip.ensures.same

pub go_last-requires : goal.go_last-requires
go_last-requires c = (c.args.exit, c.requires.0, c.requires.1)
