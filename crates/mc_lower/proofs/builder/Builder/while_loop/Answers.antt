use Rattle.mc_lower.proofs.Readying.{needs_while, ready_while, ready_same}
use Rattle.mc_lower.specs.Knowns.{known, with_label}
use Rattle.mc_lower.specs.Ready.{IsTestReady}
use Rattle.std.proofs.Common.{◌∷◌, ap, ◌∙◌, subst, sym}
use Rattle.mc_semantics.specs.Resolved.Views.{condition_of, statement_of}
use Rattle.mc_lower_spec.specs.Lowering.{Lowers}
use Rattle.mc_lower.specs.declared.tasks.Task.{Task}
use Rattle.mc_lower.specs.Left.{around_of}
use Rattle.mc_lower.specs.Valued.{TestsOn}
use Rattle.mc_lower.specs.Worlds.{stage_of}
use Rattle.mc_lower.proofs.Meeting.{while_met}
use Rattle.mc_lower.proofs.Resting.{pushed}
use Rattle.mc_lower.proofs.builder.Builder.while_loop.Goals as goal

pub returns-clause-leads : goal.returns-clause-leads
returns-clause-leads c = λ w u agrees rest.
    let body = Task.Statement c.args.body c.in_loop.result in
    let r = pushed w _ (body ∷ Task.EndWhile c.args.place c.args.self.now.lines.goal c.in_ok-exit.exit ∷ c.args.tasks.now) _ u (c.in_ok-push-2.ensures ∙ ap (λ l. body ∷ l) c.in_ok-push.ensures) rest in
    let tested = c.in_ok-test_or.ensures.leads w agrees in
    let labelled = c.in_ok-exit.ensures.kept w tested.0 in
    let skipped = c.in_ok-skip.ensures.leads w labelled.0 in
    let tests = subst (λ s. TestsOn w.graph (w.out c.args.context.occurrence) (condition_of c.args.condition.now) (w.at c.in_ok-exit.exit.0) s (stage_of w c.test_or.new.self)) (sym labelled.1) tested.1 in
    let inside = subst (λ x. Lowers w.graph (around_of w x) (statement_of c.args.body.now) (stage_of w c.test_or.new.self) r.0) c.in_loop.ensures r.1 in
    (skipped.0, (r.2.0, while_met w.graph (around_of w c.args.context) c.args.place (condition_of c.args.condition.now) (statement_of c.args.body.now) _ _ _ _ _ _ _ _ skipped.1 tests inside r.2.1, r.2.2))

pub returns-clause-ready : goal.returns-clause-ready
returns-clause-ready c = λ later.
    let body = Task.Statement c.args.body c.in_loop.result in
    ready_same _ _ _ _ (c.in_ok-test_or.ensures.same ∙ c.in_ok-exit.ensures.known ∙ ap (λ k. with_label c.in_ok-exit.exit k) c.in_ok-skip.ensures.same) (c.in_ok-push-2.ensures ∙ ap (λ l. body ∷ l) c.in_ok-push.ensures)
    (ready_while _ _ _ c.args.context c.in_loop.result c.args.place (condition_of c.args.condition.now) c.args.body _ c.args.self.now.lines.goal c.in_ok-exit.exit c.args.tasks.now c.in_loop.ensures c.requires later)

pub test_or-requires : goal.test_or-requires
test_or-requires c =
    subst (λ k. IsTestReady k c.args.context.occurrence (condition_of c.args.condition.now)) (sym (c.in_ok-exit.ensures.known ∙ ap (λ k. with_label c.in_ok-exit.exit k) c.in_ok-skip.ensures.same)) (needs_while _ _ (with_label c.in_ok-exit.exit (known c.args.self.now)).waiting _ c.args.context c.args.place (condition_of c.args.condition.now) (statement_of c.args.body.now) c.requires)
