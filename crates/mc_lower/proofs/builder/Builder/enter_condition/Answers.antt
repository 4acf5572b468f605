use Rattle.std.proofs.Common.{◌∷◌, ap, sym, subst, ◌∙◌, length}
use Rattle.mc_semantics.specs.Resolved.Programs.{plain, compare, negation, both, either}
use Rattle.mc_semantics.specs.Resolved.Views.{condition_of, expression_of}
use Rattle.mc_lower.specs.declared.conditions.Work.{Work}
use Rattle.mc_lower.specs.Knowns.{known, with_all, with_label}
use Rattle.mc_lower.specs.Ready.{AreTestsReady, IsTestReady}
use Rattle.mc_lower.specs.Valued.{Testing, froms}
use Rattle.mc_lower.proofs.Agreeing.{points_in, variables_in}
use Rattle.mc_lower.proofs.Having.{test_over, tests_over, tests_under}
use Rattle.mc_lower.proofs.Testing.{one_tested, not_tested, both_tested, either_tested}
use Rattle.mc_lower.proofs.builder.Builder.enter_condition.Goals as goal
use Rattle.mc_lower_spec.proofs.LengthLemmas.Seen.{both_condition_seen, compare_condition_seen, either_condition_seen, not_condition_seen, plain_condition_seen}

pub returns-in_ok-test_plain-in-Plain-clause-leads : goal.returns-in_ok-test_plain-in-Plain-clause-leads
returns-in_ok-test_plain-in-Plain-clause-leads c = λ w n k agrees rest.
    let tested = c.in_ok-test_plain-in-Plain.ensures.leads w agrees in
    let seen = ap condition_of c.in-Plain.is ∙ plain_condition_seen c.in-Plain.place c.in-Plain.expression in
    (tested.0, one_tested w c.args.occurrence (plain c.in-Plain.place (expression_of c.in-Plain.expression)) (condition_of c.args.condition.now) c.args.self.now.lines.goal c.args.ways.yes c.args.ways.no c.args.work.now _ _ _ _ n k seen tested.1 rest)

pub returns-in_ok-test_comparison-in-Compare-clause-leads : goal.returns-in_ok-test_comparison-in-Compare-clause-leads
returns-in_ok-test_comparison-in-Compare-clause-leads c = λ w n k agrees rest.
    let tested = c.in_ok-test_comparison-in-Compare.ensures.leads w agrees in
    let p = c.in-Compare.place in
    let m = c.in-Compare.comparison in
    let first = c.deref in
    let second = c.deref-in-Compare in
    let seen = ap condition_of c.in-Compare.is ∙ compare_condition_seen p m c.in-Compare.left c.in-Compare.right
    ∙ ap (λ x. compare p m (expression_of x) (expression_of c.in-Compare.right.value)) (sym first.ensures)
    ∙ ap (λ y. compare p m (expression_of first.result.now) (expression_of y)) (sym second.ensures) in
    (tested.0, one_tested w c.args.occurrence (compare p m (expression_of first.result.now) (expression_of second.result.now)) (condition_of c.args.condition.now) c.args.self.now.lines.goal c.args.ways.yes c.args.ways.no c.args.work.now _ _ _ _ n k seen tested.1 rest)

pub returns-in_ok-push-in-Not-clause-leads : goal.returns-in_ok-push-in-Not-clause-leads
returns-in_ok-push-in-Not-clause-leads c = λ w n k agrees rest.
    let old = c.args.self.now in
    let part = c.deref-in-Not in
    let seen = ap condition_of c.in-Not.is ∙ not_condition_seen c.in-Not.part ∙ ap (λ x. negation (condition_of x)) (sym part.ensures) in
    let f = subst (λ l. Testing w c.args.occurrence l (length old.lines.points.items) (length old.variables.list.items) n k) c.in_ok-push-in-Not.ensures rest in
    (agrees, not_tested w c.args.occurrence (condition_of part.result.now) (condition_of c.args.condition.now) old.lines.goal c.args.ways.yes c.args.ways.no c.args.work.now _ _ n k seen f)

pub returns-in_ok-push-in-Both-2-clause-leads : goal.returns-in_ok-push-in-Both-2-clause-leads
returns-in_ok-push-in-Both-2-clause-leads c = λ w n k agrees rest.
    let old = c.args.self.now in
    let new = c.label.new.self in
    let middle = c.in_ok-middle-in-Both.middle in
    let labelled = c.in_ok-middle-in-Both.ensures.kept w agrees in
    let second = c.deref-in-Both in
    let first = c.deref-in-Both-2 in
    let seen = ap condition_of c.in-Both.is ∙ both_condition_seen c.in-Both.first c.in-Both.second ∙ ap (λ x. both (condition_of x) (condition_of c.in-Both.second.value)) (sym first.ensures)
    ∙ ap (λ y. both (condition_of first.result.now) (condition_of y)) (sym second.ensures) in
    let one : Work = record { from = old.lines.goal; condition = first.result; ways = record { yes = middle; no = c.args.ways.no } } in
    let two : Work = record { from = middle; condition = second.result; ways = c.args.ways } in
    let f = subst (λ l. Testing w c.args.occurrence l (length new.lines.points.items) (length new.variables.list.items) n k) (c.in_ok-push-in-Both-2.ensures ∙ ap (λ l. one ∷ l) c.in_ok-push-in-Both.ensures) rest in
    let e = subst (λ x. Testing w c.args.occurrence (one ∷ two ∷ c.args.work.now) x (length old.variables.list.items) n k) (sym (ap points_in labelled.1))
    (subst (λ x. Testing w c.args.occurrence (one ∷ two ∷ c.args.work.now) (length new.lines.points.items) x n k) (sym (ap variables_in labelled.1)) f) in
    (labelled.0, both_tested w c.args.occurrence (condition_of first.result.now) (condition_of second.result.now) (condition_of c.args.condition.now) old.lines.goal middle c.args.ways.yes c.args.ways.no c.args.work.now _ _ n k seen e)

pub returns-in_ok-push-in-Either-2-clause-leads : goal.returns-in_ok-push-in-Either-2-clause-leads
returns-in_ok-push-in-Either-2-clause-leads c = λ w n k agrees rest.
    let old = c.args.self.now in
    let new = c.label-in-Either.new.self in
    let middle = c.in_ok-middle-in-Either.middle in
    let labelled = c.in_ok-middle-in-Either.ensures.kept w agrees in
    let second = c.deref-in-Either in
    let first = c.deref-in-Either-2 in
    let seen = ap condition_of c.in-Either.is ∙ either_condition_seen c.in-Either.first c.in-Either.second ∙ ap (λ x. either (condition_of x) (condition_of c.in-Either.second.value)) (sym first.ensures)
    ∙ ap (λ y. either (condition_of first.result.now) (condition_of y)) (sym second.ensures) in
    let one : Work = record { from = old.lines.goal; condition = first.result; ways = record { yes = c.args.ways.yes; no = middle } } in
    let two : Work = record { from = middle; condition = second.result; ways = c.args.ways } in
    let f = subst (λ l. Testing w c.args.occurrence l (length new.lines.points.items) (length new.variables.list.items) n k) (c.in_ok-push-in-Either-2.ensures ∙ ap (λ l. one ∷ l) c.in_ok-push-in-Either.ensures) rest in
    let e = subst (λ x. Testing w c.args.occurrence (one ∷ two ∷ c.args.work.now) x (length old.variables.list.items) n k) (sym (ap points_in labelled.1))
    (subst (λ x. Testing w c.args.occurrence (one ∷ two ∷ c.args.work.now) (length new.lines.points.items) x n k) (sym (ap variables_in labelled.1)) f) in
    (labelled.0, either_tested w c.args.occurrence (condition_of first.result.now) (condition_of second.result.now) (condition_of c.args.condition.now) old.lines.goal middle c.args.ways.yes c.args.ways.no c.args.work.now _ _ n k seen e)

pub returns-in_ok-test_plain-in-Plain-clause-rest : goal.returns-in_ok-test_plain-in-Plain-clause-rest
returns-in_ok-test_plain-in-Plain-clause-rest c = λ k is. sym is ∙ c.in_ok-test_plain-in-Plain.ensures.rest

pub returns-in_ok-test_comparison-in-Compare-clause-rest : goal.returns-in_ok-test_comparison-in-Compare-clause-rest
returns-in_ok-test_comparison-in-Compare-clause-rest c = λ k is. sym is ∙ c.in_ok-test_comparison-in-Compare.ensures.rest

pub returns-in_ok-push-in-Not-clause-rest : goal.returns-in_ok-push-in-Not-clause-rest
returns-in_ok-push-in-Not-clause-rest c = λ k is.
    ap (λ l. with_all (froms l) k) c.in_ok-push-in-Not.ensures ∙ ap (λ x. with_label c.args.self.now.lines.goal x) (sym is)

pub returns-in_ok-push-in-Both-2-clause-rest : goal.returns-in_ok-push-in-Both-2-clause-rest
returns-in_ok-push-in-Both-2-clause-rest c = λ k is.
    let old = c.args.self.now in
    let middle = c.in_ok-middle-in-Both.middle in
    let one : Work = record { from = old.lines.goal; condition = c.deref-in-Both-2.result; ways = record { yes = middle; no = c.args.ways.no } } in
    ap (λ l. with_all (froms l) k) (c.in_ok-push-in-Both-2.ensures ∙ ap (λ l. one ∷ l) c.in_ok-push-in-Both.ensures)
    ∙ ap (λ x. with_label old.lines.goal (with_label middle x)) (sym is)
    ∙ ap (λ x. with_label old.lines.goal x) (sym c.in_ok-middle-in-Both.ensures.known)
    ∙ ap (λ g. with_label g (known c.label.new.self)) (sym c.in_ok-middle-in-Both.ensures.goal)

pub returns-in_ok-push-in-Either-2-clause-rest : goal.returns-in_ok-push-in-Either-2-clause-rest
returns-in_ok-push-in-Either-2-clause-rest c = λ k is.
    let old = c.args.self.now in
    let middle = c.in_ok-middle-in-Either.middle in
    let one : Work = record { from = old.lines.goal; condition = c.deref-in-Either-2.result; ways = record { yes = c.args.ways.yes; no = middle } } in
    ap (λ l. with_all (froms l) k) (c.in_ok-push-in-Either-2.ensures ∙ ap (λ l. one ∷ l) c.in_ok-push-in-Either.ensures)
    ∙ ap (λ x. with_label old.lines.goal (with_label middle x)) (sym is)
    ∙ ap (λ x. with_label old.lines.goal x) (sym c.in_ok-middle-in-Either.ensures.known)
    ∙ ap (λ g. with_label g (known c.label-in-Either.new.self)) (sym c.in_ok-middle-in-Either.ensures.goal)

pub returns-in_ok-test_plain-in-Plain-clause-ready : goal.returns-in_ok-test_plain-in-Plain-clause-ready
returns-in_ok-test_plain-in-Plain-clause-ready c = tests_under _ _ _ _ c.args.work.now c.in_ok-test_plain-in-Plain.ensures.rest c.requires.others

pub returns-in_ok-test_comparison-in-Compare-clause-ready : goal.returns-in_ok-test_comparison-in-Compare-clause-ready
returns-in_ok-test_comparison-in-Compare-clause-ready c = tests_under _ _ _ _ c.args.work.now c.in_ok-test_comparison-in-Compare.ensures.rest c.requires.others

pub returns-in_ok-push-in-Both-2-clause-ready : goal.returns-in_ok-push-in-Both-2-clause-ready
returns-in_ok-push-in-Both-2-clause-ready c =
    let old = c.args.self.now in
    let new = c.label.new.self in
    let i = c.args.occurrence in
    let middle = c.in_ok-middle-in-Both.middle in
    let second = c.deref-in-Both in
    let first = c.deref-in-Both-2 in
    let seen = ap condition_of c.in-Both.is ∙ both_condition_seen c.in-Both.first c.in-Both.second ∙ ap (λ x. both (condition_of x) (condition_of c.in-Both.second.value)) (sym first.ensures)
    ∙ ap (λ y. both (condition_of first.result.now) (condition_of y)) (sym second.ensures) in
    let one : Work = record { from = old.lines.goal; condition = first.result; ways = record { yes = middle; no = c.args.ways.no } } in
    let both_ready = subst (λ d. IsTestReady (known old) i d) seen c.requires.ready in
    let waits = c.in_ok-middle-in-Both.ensures.known in
    subst (λ l. AreTestsReady (known new) i l) (sym (c.in_ok-push-in-Both-2.ensures ∙ ap (λ l. one ∷ l) c.in_ok-push-in-Both.ensures))
    (test_over _ _ middle i (condition_of first.result.now) waits both_ready.0, (test_over _ _ middle i (condition_of second.result.now) waits both_ready.1, tests_over _ _ middle i c.args.work.now waits c.requires.others))

pub returns-in_ok-push-in-Either-2-clause-ready : goal.returns-in_ok-push-in-Either-2-clause-ready
returns-in_ok-push-in-Either-2-clause-ready c =
    let old = c.args.self.now in
    let new = c.label-in-Either.new.self in
    let i = c.args.occurrence in
    let middle = c.in_ok-middle-in-Either.middle in
    let second = c.deref-in-Either in
    let first = c.deref-in-Either-2 in
    let seen = ap condition_of c.in-Either.is ∙ either_condition_seen c.in-Either.first c.in-Either.second ∙ ap (λ x. either (condition_of x) (condition_of c.in-Either.second.value)) (sym first.ensures)
    ∙ ap (λ y. either (condition_of first.result.now) (condition_of y)) (sym second.ensures) in
    let one : Work = record { from = old.lines.goal; condition = first.result; ways = record { yes = c.args.ways.yes; no = middle } } in
    let both_ready = subst (λ d. IsTestReady (known old) i d) seen c.requires.ready in
    let waits = c.in_ok-middle-in-Either.ensures.known in
    subst (λ l. AreTestsReady (known new) i l) (sym (c.in_ok-push-in-Either-2.ensures ∙ ap (λ l. one ∷ l) c.in_ok-push-in-Either.ensures))
    (test_over _ _ middle i (condition_of first.result.now) waits both_ready.0, (test_over _ _ middle i (condition_of second.result.now) waits both_ready.1, tests_over _ _ middle i c.args.work.now waits c.requires.others))
