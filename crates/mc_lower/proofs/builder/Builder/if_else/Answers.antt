use Rattle.mc_lower.proofs.Readying.{needs_if_else, ready_if_else, ready_same}
use Rattle.mc_lower.specs.Knowns.{known, with_label}
use Rattle.mc_lower.specs.Ready.{IsTestReady}
use Rattle.std.proofs.Common.{◌∷◌, ap, ◌∙◌, subst, sym}
use Rattle.mc_semantics.specs.Resolved.Views.{condition_of, statement_of}
use Rattle.mc_lower.specs.declared.tasks.Task.{Task}
use Rattle.mc_lower.specs.Left.{around_of}
use Rattle.mc_lower.specs.Valued.{TestsOn}
use Rattle.mc_lower.specs.Worlds.{stage_of}
use Rattle.mc_lower.proofs.Meeting.{if_else_met}
use Rattle.mc_lower.proofs.Resting.{pushed}
use Rattle.mc_lower.proofs.builder.Builder.if_else.Goals as goal

pub returns-clause-leads : goal.returns-clause-leads
returns-clause-leads c = λ w u agrees rest.
    let other = c.in_ok-no.no in
    let merge = c.in_ok-merge.merge in
    let last = Task.Merge c.args.place merge in
    let second = Task.Statement c.args.second c.args.context in
    let between = Task.Otherwise other merge in
    let first = Task.Statement c.args.first c.args.context in
    let r = pushed w _ (first ∷ between ∷ second ∷ last ∷ c.args.tasks.now) _ u
    (c.in_ok-push-4.ensures ∙ ap (λ l. first ∷ l) c.in_ok-push-3.ensures ∙ ap (λ l. first ∷ between ∷ l) c.in_ok-push-2.ensures ∙ ap (λ l. first ∷ between ∷ second ∷ l) c.in_ok-push.ensures) rest in
    let tested = c.in_ok-test_or.ensures.leads w agrees in
    let later = c.in_ok-no.ensures.kept w tested.0 in
    let labelled = c.in_ok-merge.ensures.kept w later.0 in
    let tests = subst (λ s. TestsOn w.graph (w.out c.args.context.occurrence) (condition_of c.args.condition.now) (w.at other.0) s (stage_of w c.test_or.new.self)) (sym (labelled.1 ∙ later.1)) tested.1 in (
      labelled.0,
      (
        r.2.2.2.0,
        if_else_met w.graph (around_of w c.args.context) c.args.place (condition_of c.args.condition.now) (statement_of c.args.first.now) (statement_of c.args.second.now) _ _ _ _ _ _ _ _
            tests r.1 r.2.1 r.2.2.1 r.2.2.2.1,
        r.2.2.2.2,
      ),
    )

pub returns-clause-ready : goal.returns-clause-ready
returns-clause-ready c = λ later.
    let last = Task.Merge c.args.place c.in_ok-merge.merge in
    let second = Task.Statement c.args.second c.args.context in
    let between = Task.Otherwise c.in_ok-no.no c.in_ok-merge.merge in
    let first = Task.Statement c.args.first c.args.context in
    ready_same _ _ _ _ (c.in_ok-test_or.ensures.same ∙ c.in_ok-no.ensures.known ∙ ap (λ k. with_label c.in_ok-no.no k) c.in_ok-merge.ensures.known)
    (c.in_ok-push-4.ensures ∙ ap (λ l. first ∷ l) c.in_ok-push-3.ensures ∙ ap (λ l. first ∷ between ∷ l) c.in_ok-push-2.ensures ∙ ap (λ l. first ∷ between ∷ second ∷ l) c.in_ok-push.ensures)
    (ready_if_else _ _ _ c.args.context c.args.place (condition_of c.args.condition.now) c.args.first c.args.second c.in_ok-no.no c.in_ok-merge.merge c.args.tasks.now c.requires later)

pub test_or-requires : goal.test_or-requires
test_or-requires c =
    subst (λ k. IsTestReady k c.args.context.occurrence (condition_of c.args.condition.now)) (sym (c.in_ok-no.ensures.known ∙ ap (λ k. with_label c.in_ok-no.no k) c.in_ok-merge.ensures.known)) (needs_if_else _ _ (with_label c.in_ok-no.no (with_label c.in_ok-merge.merge (known c.args.self.now))).waiting _ c.args.context c.args.place (condition_of c.args.condition.now) (statement_of c.args.first.now) (statement_of c.args.second.now) c.requires)
