use Rattle.std.proofs.Common.{subst, sym, length}
use Rattle.mc_lower_spec.specs.Graphs.{stage}
use Rattle.mc_lower.specs.declared.builder.Label.{Label}
use Rattle.mc_lower.specs.Valued.{TestsOn, tests_on}
use Rattle.mc_lower.specs.Worlds.{stage_of}
use Rattle.mc_lower.proofs.Having.{test_over}
use Rattle.mc_lower.proofs.Waiting.{popped}
use Rattle.mc_semantics.specs.Resolved.Views.{condition_of}
use Rattle.mc_lower.proofs.builder.Builder.test_or.Goals as goal

pub returns-clause-leads : goal.returns-clause-leads
returns-clause-leads c = λ w agrees.
    let tested = c.in_ok-test.ensures.leads w agrees in
    let labelled = c.in_ok-yes.ensures.kept w tested.0 in
    let new = c.test.new.self in
    let goes = popped _ _ _ _ _ c.in_ok-yes.ensures.known c.in_ok-test.ensures.rest in
    let out = w.out c.args.occurrence in
    let d = condition_of c.args.condition.now in (
      labelled.0,
      subst (λ s. TestsOn w.graph out d (w.at c.args.no.0) s (stage_of w new)) (sym labelled.1)
          (subst (λ (l : Label). TestsOn w.graph out d (w.at c.args.no.0) (stage_of w c.label.new.self) (stage (w.at l.0) (length new.lines.points.items) (length new.variables.list.items))) (sym goes.0) (tests_on tested.1)),
    )

pub returns-clause-same : goal.returns-clause-same
returns-clause-same c = let goes = popped _ _ _ _ _ c.in_ok-yes.ensures.known c.in_ok-test.ensures.rest in goes.1

pub test-requires-clause-ready : goal.test-requires-clause-ready
test-requires-clause-ready c = test_over _ _ _ c.args.occurrence (condition_of c.args.condition.now) c.in_ok-yes.ensures.known c.requires

pub test-requires-clause-waits : goal.test-requires-clause-waits
test-requires-clause-waits c = (c.in_ok-yes.yes, _, c.in_ok-yes.ensures.known)
