use Rattle.std.proofs.Common.{ap, refl, subst, sym, ◌∙◌}
use Rattle.mc_flow.specs.declared.instr.Instr.TheVariants.{Skip}
use Rattle.mc_lower_spec.specs.Graphs.{point}
use Rattle.mc_semantics.specs.Resolved.Views.{condition_of}
use Rattle.mc_lower.specs.declared.lines.Awaited.{Awaited}
use Rattle.mc_lower.specs.Knowns.{with_label}
use Rattle.mc_lower.specs.Ready.{IsTestReady}
use Rattle.mc_lower.proofs.Agreeing.{appended_there, targets}
use Rattle.mc_lower.proofs.Having.{test_under}
use Rattle.mc_lower.proofs.Meeting.{did_there}
use Rattle.mc_lower.proofs.Waiting.{popped, under}
use Rattle.mc_lower.proofs.builder.Builder.end_do.Goals as goal

pub returns-clause-leads : goal.returns-clause-leads
returns-clause-leads c = λ w agrees.
    let turn = Awaited.Goal c.args.turns.turn in
    let k = with_label c.args.turns.exit c.requires.waits.0 in
    let last = c.in_ok-skip.ensures.leads w agrees in
    let tested = c.in_ok-test.ensures.leads w last.0 in
    let landed = c.in_ok-land.ensures.leads turn k c.requires.waits.1 w tested.0 in
    let to = targets _ _ _ c.target.ensures c.next-next.ensures in
    let there = appended_there w _ _ c.args.place _ _ (λ q. Skip q) _ _ (ap (λ q. Skip (point (w.at q.0))) to) landed.1 in
    let goes = popped _ _ _ _ _ (c.in_ok-land.ensures.rest turn k c.requires.waits.1) c.in_ok-test.ensures.rest in (
      landed.0,
      did_there w.graph (w.out c.args.occurrence) c.args.place (condition_of c.args.condition.now) (w.at c.args.head.0) (w.at c.args.turns.turn.0) there.0 (w.at c.args.turns.exit.0) _ _ _ _ _ _
          there.1 there.2 tested.1 (ap (λ l. w.at l.0) goes.0) last.1,
    )

pub returns-clause-rest : goal.returns-clause-rest
returns-clause-rest c =
    let turn = Awaited.Goal c.args.turns.turn in
    let k = with_label c.args.turns.exit c.requires.waits.0 in
    let landed = c.in_ok-land.ensures.rest turn k c.requires.waits.1 in
    let goes = popped _ _ _ _ _ landed c.in_ok-test.ensures.rest in
    c.requires.waits.1 ∙ ap (λ x. with_label c.args.turns.turn x) (under _ k _ _ refl (c.in_ok-skip.ensures.same ∙ goes.1))

pub land-requires : goal.land-requires
land-requires c = (Awaited.Goal c.args.turns.turn, with_label c.args.turns.exit c.requires.waits.0, c.requires.waits.1)

pub test-requires-clause-ready : goal.test-requires-clause-ready
test-requires-clause-ready c =
    let turn = Awaited.Goal c.args.turns.turn in
    let k = with_label c.args.turns.exit c.requires.waits.0 in
    let landed = c.in_ok-land.ensures.rest turn k c.requires.waits.1 in
    subst (λ x. IsTestReady x c.args.occurrence (condition_of c.args.condition.now)) (sym landed)
    (test_under _ k c.args.turns.turn c.args.occurrence (condition_of c.args.condition.now) c.requires.waits.1 c.requires.ready)

pub test-requires-clause-waits : goal.test-requires-clause-waits
test-requires-clause-waits c =
    let turn = Awaited.Goal c.args.turns.turn in
    let k = with_label c.args.turns.exit c.requires.waits.0 in
    (c.args.turns.exit, c.requires.waits.0, c.in_ok-land.ensures.rest turn k c.requires.waits.1)
