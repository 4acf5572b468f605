use Rattle.std.proofs.Common.{◌≡◌, subst, sym, ap, ◌∙◌, length}
use Rattle.mc_semantics.specs.Resolved.Views.{condition_of}
use Rattle.mc_lower_spec.specs.Graphs.{stage}
use Rattle.mc_lower.specs.Left.{Checks}
use Rattle.mc_lower.specs.Worlds.{role_of, settled, stage_of}
use Rattle.mc_lower.proofs.Having.{test_over}
use Rattle.mc_lower.proofs.Meeting.{checked}
use Rattle.mc_lower.proofs.Waiting.{popped}
use Rattle.mc_lower.proofs.builder.Builder.check.Goals as goal

pub returns-clause-leads : goal.returns-clause-leads
returns-clause-leads c = λ w agrees.
    let new = c.put_last.new.self in
    let put = c.in_ok-put_last.ensures.leads w agrees in
    let tested = c.in_ok-test.ensures.leads w put.0 in
    let second_label = c.in_ok-no.ensures.kept w tested.0 in
    let first_label = c.in_ok-yes.ensures.kept w second_label.0 in
    let first_goal = popped _ _ _ _ _ c.in_ok-no.ensures.known c.in_ok-test.ensures.rest in
    let second_goal = popped _ _ _ _ _ (first_goal.1 ∙ c.in_ok-yes.ensures.known) c.in_ok-put_last.ensures.rest in
    let at : w.at c.in_ok-no.no.0 ≡ length c.test.new.self.lines.points.items = ap (λ l. w.at l.0) (sym first_goal.0) ∙ put.1.at in
    let to : w.at c.in_ok-yes.yes.0 ≡ w.at new.lines.goal.0 = ap (λ l. w.at l.0) (sym second_goal.0) in
    let out = w.out c.args.occurrence in
    let d = condition_of c.args.condition.now in
    let code = settled w.at c.args.otherwise in
    let there = checked w.graph out (role_of c.args.role) c.args.place code d _ (w.at c.in_ok-yes.yes.0) _ _ _ _ _ tested.1 at put.1.points (ap (λ v. length v.list.items) put.1.variables) put.1.there in (
      first_label.0,
      subst (λ s. Checks w.graph out (role_of c.args.role) c.args.place code d s (stage_of w new)) (sym (first_label.1 ∙ second_label.1))
          (subst (λ a. Checks w.graph out (role_of c.args.role) c.args.place code d (stage_of w c.label-2.new.self) (stage a (length new.lines.points.items) (length new.variables.list.items))) to there),
    )

pub returns-clause-same : goal.returns-clause-same
returns-clause-same c =
    let first_goal = popped _ _ _ _ _ c.in_ok-no.ensures.known c.in_ok-test.ensures.rest in
    let second_goal = popped _ _ _ _ _ (first_goal.1 ∙ c.in_ok-yes.ensures.known) c.in_ok-put_last.ensures.rest in second_goal.1

pub test-requires-clause-ready : goal.test-requires-clause-ready
test-requires-clause-ready c =
    let i = c.args.occurrence in
    let d = condition_of c.args.condition.now in
    test_over _ _ _ i d c.in_ok-no.ensures.known (test_over _ _ _ i d c.in_ok-yes.ensures.known c.requires)

pub test-requires-clause-waits : goal.test-requires-clause-waits
test-requires-clause-waits c = (c.in_ok-no.no, _, c.in_ok-no.ensures.known)

pub put_last-requires : goal.put_last-requires
put_last-requires c =
    let first_goal = popped _ _ _ _ _ c.in_ok-no.ensures.known c.in_ok-test.ensures.rest in
    (c.in_ok-yes.yes, _, first_goal.1 ∙ c.in_ok-yes.ensures.known)
