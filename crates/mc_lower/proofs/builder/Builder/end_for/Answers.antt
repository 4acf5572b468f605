use Rattle.std.proofs.Common.{subst, ap, ◌∙◌}
use Rattle.mc_lower_spec.specs.Graphs.{nowhere, Leaves}
use Rattle.mc_lower.specs.Left.{ends_for}
use Rattle.mc_lower.specs.Worlds.{stage_of}
use Rattle.mc_lower.proofs.Meeting.{exits_there}
use Rattle.mc_lower.proofs.Waiting.{gone_on, popped, under}
use Rattle.mc_lower.proofs.builder.Builder.end_for.Goals as goal

pub returns-clause-leads : goal.returns-clause-leads
returns-clause-leads c = λ w agrees.
    let left = c.in_ok-leave.ensures.leads w agrees in
    let skipped = c.in_ok-skip.ensures.leads w left.0 in
    let gone = c.in_ok-go_last.ensures.leads w skipped.0 in
    let goes = popped _ _ _ _ _ c.requires.1 c.in_ok-go_last.ensures.rest in
    let here = exits_there w.graph c.args.head.now.place (w.at c.args.begin.0) (w.at c.args.exit.0) _ _ _ _ _ (ap (λ l. w.at l.0) goes.0) gone.1 skipped.1 in
    let leaves_there = subst (λ xs. Leaves w.graph (w.out c.args.occurrence) nowhere xs (stage_of w c.skip.new.self) (stage_of w c.leave.new.self)) c.as_slice.ensures.value left.1 in
    (gone.0, ends_for here leaves_there)

pub returns-clause-rest : goal.returns-clause-rest
returns-clause-rest c =
    under _ _ _ _ (gone_on _ _ _ _ _ c.requires.1 c.in_ok-go_last.ensures.rest) (c.in_ok-leave.ensures.same ∙ c.in_ok-skip.ensures.same)

pub go_last-requires : goal.go_last-requires
go_last-requires c = (c.args.exit, c.requires.0, c.requires.1)
