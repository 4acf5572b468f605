use Rattle.mc_lower.specs.Knowns.{known, with_label}
use Rattle.mc_lower.proofs.Readying.{needs_if, ready_if_only, ready_same}
use Rattle.mc_lower.specs.Ready.{IsTestReady}
use Rattle.std.proofs.Common.{◌∷◌, ap, ◌∙◌, subst, sym}
use Rattle.mc_semantics.specs.Resolved.Views.{condition_of, statement_of}
use Rattle.mc_lower.specs.declared.tasks.Task.{Task}
use Rattle.mc_lower.specs.Left.{around_of}
use Rattle.mc_lower.specs.Valued.{TestsOn}
use Rattle.mc_lower.specs.Worlds.{stage_of}
use Rattle.mc_lower.proofs.Meeting.{if_met}
use Rattle.mc_lower.proofs.Resting.{pushed}
use Rattle.mc_lower.proofs.builder.Builder.if_only.Goals as goal

pub returns-clause-leads : goal.returns-clause-leads
returns-clause-leads c = λ w u agrees rest.
    let body = Task.Statement c.args.part c.args.context in
    let r = pushed w _ (body ∷ Task.Merge c.args.place c.in_ok-merge.merge ∷ c.args.tasks.now) _ u (c.in_ok-push-2.ensures ∙ ap (λ l. body ∷ l) c.in_ok-push.ensures) rest in
    let tested = c.in_ok-test_or.ensures.leads w agrees in
    let labelled = c.in_ok-merge.ensures.kept w tested.0 in
    let tests = subst (λ s. TestsOn w.graph (w.out c.args.context.occurrence) (condition_of c.args.condition.now) (w.at c.in_ok-merge.merge.0) s (stage_of w c.test_or.new.self)) (sym labelled.1) tested.1 in
    (labelled.0, (r.2.0, if_met w.graph (around_of w c.args.context) c.args.place (condition_of c.args.condition.now) (statement_of c.args.part.now) _ _ _ _ _ tests r.1 r.2.1, r.2.2))

pub returns-clause-ready : goal.returns-clause-ready
returns-clause-ready c = λ later.
    ready_same _ _ _ _ (c.in_ok-test_or.ensures.same ∙ c.in_ok-merge.ensures.known) (c.in_ok-push-2.ensures ∙ ap (λ l. Task.Statement c.args.part c.args.context ∷ l) c.in_ok-push.ensures)
    (ready_if_only _ _ _ c.args.context c.args.place (condition_of c.args.condition.now) c.args.part c.in_ok-merge.merge c.args.tasks.now c.requires later)

pub test_or-requires : goal.test_or-requires
test_or-requires c =
    subst (λ k. IsTestReady k c.args.context.occurrence (condition_of c.args.condition.now)) (sym c.in_ok-merge.ensures.known) (needs_if _ _ (with_label c.in_ok-merge.merge (known c.args.self.now)).waiting _ c.args.context c.args.place (condition_of c.args.condition.now) (statement_of c.args.part.now) c.requires)
