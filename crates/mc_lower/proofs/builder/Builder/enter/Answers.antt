use Rattle.std.proofs.Common.{length}
use Rattle.mc_lower.specs.Knowns.{known}
use Rattle.mc_lower.specs.Ready.{IsReady, IsWorkReady}
use Rattle.mc_lower.proofs.Having.{low_one}
use Rattle.std.proofs.Common.{◌∷◌, pos, ap, sym, subst, ◌∙◌}
use Rattle.mc_base.specs.declared.plain.Kind.TheVariants.{Int}
use Rattle.mc_flow.specs.declared.instr.Operand.TheVariants.{Var, Const}
use Rattle.mc_semantics.specs.Resolved.Programs.{value, minus, times, plus, difference}
use Rattle.mc_semantics.specs.Resolved.Views.{expression_of, left_of}
use Rattle.mc_lower_spec.specs.Values.{an_input, Evaluates, Computes, of_input, of_operation}
use Rattle.mc_lower.specs.declared.values.How.{How}
use Rattle.mc_lower.specs.declared.values.Work.{Work}
use Rattle.mc_lower.specs.Valued.{Finishes}
use Rattle.mc_lower.specs.Worlds.{stage_of}
use Rattle.mc_lower.proofs.Valuing.{valued, one_made, number_made, minus_made, join_made}
use Rattle.mc_lower.proofs.builder.Builder.enter.Goals as goal
use Rattle.mc_lower_spec.proofs.LengthLemmas.Seen.{difference_seen, input_seen, minus_seen, number_seen, plus_seen, times_seen, value_seen}

pub returns-in_ok-push-in-Number-clause-leads : goal.returns-in_ok-push-in-Number-clause-leads
returns-in_ok-push-in-Number-clause-leads c = λ w o ts u agrees rest.
    let n = c.in-Number.number in
    let seen = ap expression_of c.in-Number.is ∙ number_seen n in (
      agrees,
      one_made w.graph (w.out c.args.site.occurrence) c.args.site.place (expression_of c.args.expression.now) (Const (pos n)) c.args.work.now c.args.made.now _ _ _ _ _ _ _ o
          (number_made w.graph (w.out c.args.site.occurrence) c.args.site.place _ n _ _ seen) (c.in_ok-push-in-Number.ensures ∙ ap (λ x. x ∷ c.args.made.now) c.number_of.ensures) rest,
    )

pub returns-in_ok-make-in-Input-clause-leads : goal.returns-in_ok-make-in-Input-clause-leads
returns-in_ok-make-in-Input-clause-leads c = λ w o ts u agrees rest.
    let made = c.in_ok-make-in-Input.ensures.leads w agrees in
    let ss = c.args.temporaries.now.items in
    let s = stage_of w c.args.self.now in
    let computed = subst (λ x. Computes w.graph (w.out c.args.site.occurrence) c.args.site.place x ss s Int an_input ss s) (sym (ap expression_of c.in-Input.is ∙ input_seen)) of_input in
    (made.0, one_made w.graph (w.out c.args.site.occurrence) c.args.site.place (expression_of c.args.expression.now) (Var made.1.variable) c.args.work.now c.args.made.now _ _ _ _ _ _ _ o (of_operation computed made.1.taken) made.1.kept rest)

pub returns-in_ok-push-in-Value-clause-leads : goal.returns-in_ok-push-in-Value-clause-leads
returns-in_ok-push-in-Value-clause-leads c = λ w o ts u agrees rest.
    let operand = c.in_ok-operand-in-Value.ensures.leads w agrees in
    let known = c.in_ok-value-in-Value.ensures.leads w operand.0 in
    let there = valued w.graph (w.out c.args.site.occurrence) c.args.site.place (value (left_of c.in-Value.left)) _ _ _ _ _ _ _ _ known.1 operand.1 in
    let e = subst (λ x. Evaluates w.graph (w.out c.args.site.occurrence) c.args.site.place x c.args.temporaries.now.items (stage_of w c.args.self.now) c.in_ok-operand-in-Value.operand c.operand_of.new.temporaries.items (stage_of w c.operand_of.new.self))
    (sym (ap expression_of c.in-Value.is ∙ value_seen c.in-Value.left)) there in
    (known.0, one_made w.graph (w.out c.args.site.occurrence) c.args.site.place (expression_of c.args.expression.now) c.in_ok-operand-in-Value.operand c.args.work.now c.args.made.now _ _ _ _ _ _ _ o e c.in_ok-push-in-Value.ensures rest)

pub returns-in_ok-push-in-Minus-2-clause-leads : goal.returns-in_ok-push-in-Minus-2-clause-leads
returns-in_ok-push-in-Minus-2-clause-leads c = λ w o ts u agrees rest.
    let part = Work.Whole c.deref.result in
    let seen = ap expression_of c.in-Minus.is ∙ minus_seen c.in-Minus.part ∙ ap (λ x. minus (expression_of x)) (sym c.deref.ensures) in
    let f = subst (λ l. Finishes w.graph (w.out c.args.site.occurrence) c.args.site.place l c.args.made.now c.args.temporaries.now.items (stage_of w c.args.self.now) o ts u)
    (c.in_ok-push-in-Minus-2.ensures ∙ ap (λ l. part ∷ l) c.in_ok-push-in-Minus.ensures) rest in
    (agrees, minus_made w.graph (w.out c.args.site.occurrence) c.args.site.place (expression_of c.args.expression.now) (expression_of c.deref.result.now) c.args.work.now c.args.made.now _ _ _ _ o seen f)

pub returns-in_ok-enter_join-in-Times-clause-leads : goal.returns-in_ok-enter_join-in-Times-clause-leads
returns-in_ok-enter_join-in-Times-clause-leads c = λ w o ts u agrees rest.
    let first = c.deref-in-Times in
    let second = c.deref-in-Times-2 in
    let seen = ap expression_of c.in-Times.is ∙ times_seen c.in-Times.left c.in-Times.right ∙ ap (λ x. times (expression_of x) (expression_of c.in-Times.right.value)) (sym first.ensures)
    ∙ ap (λ y. times (expression_of first.result.now) (expression_of y)) (sym second.ensures) in
    let f = subst (λ l. Finishes w.graph (w.out c.args.site.occurrence) c.args.site.place l c.args.made.now c.args.temporaries.now.items (stage_of w c.args.self.now) o ts u) c.in_ok-enter_join-in-Times.ensures rest in
    (agrees, join_made w.graph (w.out c.args.site.occurrence) c.args.site.place How.Times (expression_of c.args.expression.now) (expression_of first.result.now) (expression_of second.result.now) c.args.work.now c.args.made.now _ _ _ _ o seen f)

pub returns-in_ok-enter_join-in-Plus-clause-leads : goal.returns-in_ok-enter_join-in-Plus-clause-leads
returns-in_ok-enter_join-in-Plus-clause-leads c = λ w o ts u agrees rest.
    let first = c.deref-in-Plus in
    let second = c.deref-in-Plus-2 in
    let seen = ap expression_of c.in-Plus.is ∙ plus_seen c.in-Plus.left c.in-Plus.right ∙ ap (λ x. plus (expression_of x) (expression_of c.in-Plus.right.value)) (sym first.ensures)
    ∙ ap (λ y. plus (expression_of first.result.now) (expression_of y)) (sym second.ensures) in
    let f = subst (λ l. Finishes w.graph (w.out c.args.site.occurrence) c.args.site.place l c.args.made.now c.args.temporaries.now.items (stage_of w c.args.self.now) o ts u) c.in_ok-enter_join-in-Plus.ensures rest in
    (agrees, join_made w.graph (w.out c.args.site.occurrence) c.args.site.place How.Plus (expression_of c.args.expression.now) (expression_of first.result.now) (expression_of second.result.now) c.args.work.now c.args.made.now _ _ _ _ o seen f)

pub returns-in_ok-enter_join-in-Difference-clause-leads : goal.returns-in_ok-enter_join-in-Difference-clause-leads
returns-in_ok-enter_join-in-Difference-clause-leads c = λ w o ts u agrees rest.
    let first = c.deref-in-Difference in
    let second = c.deref-in-Difference-2 in
    let seen = ap expression_of c.in-Difference.is ∙ difference_seen c.in-Difference.left c.in-Difference.right ∙ ap (λ x. difference (expression_of x) (expression_of c.in-Difference.right.value)) (sym first.ensures)
    ∙ ap (λ y. difference (expression_of first.result.now) (expression_of y)) (sym second.ensures) in
    let f = subst (λ l. Finishes w.graph (w.out c.args.site.occurrence) c.args.site.place l c.args.made.now c.args.temporaries.now.items (stage_of w c.args.self.now) o ts u) c.in_ok-enter_join-in-Difference.ensures rest in
    (agrees, join_made w.graph (w.out c.args.site.occurrence) c.args.site.place How.Difference (expression_of c.args.expression.now) (expression_of first.result.now) (expression_of second.result.now) c.args.work.now c.args.made.now _ _ _ _ o seen f)

pub place_value-requires : goal.place_value-requires
place_value-requires c = subst (λ x. IsReady (known c.args.self.now) c.args.site.occurrence x) (ap expression_of c.in-Value.is ∙ value_seen c.in-Value.left) c.requires.ready

pub returns-in_ok-push-in-Minus-2-clause-ready : goal.returns-in_ok-push-in-Minus-2-clause-ready
returns-in_ok-push-in-Minus-2-clause-ready c =
    let part = Work.Whole c.deref.result in
    let seen = ap expression_of c.in-Minus.is ∙ minus_seen c.in-Minus.part ∙ ap (λ x. minus (expression_of x)) (sym c.deref.ensures) in
    subst (λ l. IsWorkReady (known c.args.self.now) c.args.site.occurrence l (length c.args.made.now)) (sym (c.in_ok-push-in-Minus-2.ensures ∙ ap (λ l. part ∷ l) c.in_ok-push-in-Minus.ensures))
    (subst (λ x. IsReady (known c.args.self.now) c.args.site.occurrence x) seen c.requires.ready, (low_one (length c.args.made.now), c.requires.others))

pub returns-in_ok-enter_join-in-Times-clause-ready : goal.returns-in_ok-enter_join-in-Times-clause-ready
returns-in_ok-enter_join-in-Times-clause-ready c =
    let seen = (ap expression_of c.in-Times.is ∙ times_seen c.in-Times.left c.in-Times.right ∙ ap (λ x. times (expression_of x) (expression_of c.in-Times.right.value)) (sym c.deref-in-Times.ensures)
    ∙ ap (λ y. times (expression_of c.deref-in-Times.result.now) (expression_of y)) (sym c.deref-in-Times-2.ensures)) in
    let both = subst (λ x. IsReady (known c.args.self.now) c.args.site.occurrence x) seen c.requires.ready in
    subst (λ l. IsWorkReady (known c.args.self.now) c.args.site.occurrence l (length c.args.made.now)) (sym c.in_ok-enter_join-in-Times.ensures)
    (both.0, (both.1, (low_one (length c.args.made.now), c.requires.others)))

pub returns-in_ok-enter_join-in-Plus-clause-ready : goal.returns-in_ok-enter_join-in-Plus-clause-ready
returns-in_ok-enter_join-in-Plus-clause-ready c =
    let seen = (ap expression_of c.in-Plus.is ∙ plus_seen c.in-Plus.left c.in-Plus.right ∙ ap (λ x. plus (expression_of x) (expression_of c.in-Plus.right.value)) (sym c.deref-in-Plus.ensures)
    ∙ ap (λ y. plus (expression_of c.deref-in-Plus.result.now) (expression_of y)) (sym c.deref-in-Plus-2.ensures)) in
    let both = subst (λ x. IsReady (known c.args.self.now) c.args.site.occurrence x) seen c.requires.ready in
    subst (λ l. IsWorkReady (known c.args.self.now) c.args.site.occurrence l (length c.args.made.now)) (sym c.in_ok-enter_join-in-Plus.ensures)
    (both.0, (both.1, (low_one (length c.args.made.now), c.requires.others)))

pub returns-in_ok-enter_join-in-Difference-clause-ready : goal.returns-in_ok-enter_join-in-Difference-clause-ready
returns-in_ok-enter_join-in-Difference-clause-ready c =
    let seen = (ap expression_of c.in-Difference.is ∙ difference_seen c.in-Difference.left c.in-Difference.right ∙ ap (λ x. difference (expression_of x) (expression_of c.in-Difference.right.value)) (sym c.deref-in-Difference.ensures)
    ∙ ap (λ y. difference (expression_of c.deref-in-Difference.result.now) (expression_of y)) (sym c.deref-in-Difference-2.ensures)) in
    let both = subst (λ x. IsReady (known c.args.self.now) c.args.site.occurrence x) seen c.requires.ready in
    subst (λ l. IsWorkReady (known c.args.self.now) c.args.site.occurrence l (length c.args.made.now)) (sym c.in_ok-enter_join-in-Difference.ensures)
    (both.0, (both.1, (low_one (length c.args.made.now), c.requires.others)))
