use Rattle.mc_lower.specs.Knowns.{known}
use Rattle.mc_lower.specs.Ready.{IsReady}
use Rattle.std.proofs.Common.{pos, refl, ap, sym, subst, ◌∙◌}
use Rattle.mc_base.specs.declared.plain.Kind.TheVariants.{Int}
use Rattle.mc_flow.specs.declared.instr.Operand.TheVariants.{Const}
use Rattle.mc_semantics.specs.Resolved.Programs.{minus, times, plus, difference}
use Rattle.mc_semantics.specs.Resolved.Views.{expression_of}
use Rattle.mc_lower_spec.specs.Values.{an_input, a_difference, Evaluates, Computes, of_input, of_minus}
use Rattle.mc_lower.specs.declared.values.How.{How}
use Rattle.mc_lower.specs.Valued.{IsValue}
use Rattle.mc_lower.specs.Worlds.{stage_of}
use Rattle.mc_lower.proofs.Valuing.{number_made, join_valued}
use Rattle.mc_lower.proofs.builder.Builder.compute.Goals as goal
use Rattle.mc_lower_spec.proofs.LengthLemmas.Seen.{difference_seen, input_seen, minus_seen, number_seen, plus_seen, times_seen, value_seen}

pub returns-in-Number-clause-leads : goal.returns-in-Number-clause-leads
returns-in-Number-clause-leads c = λ w agrees.
    let ts = c.args.temporaries.now.items in
    let s = stage_of w c.args.self.now in
    let e = expression_of c.args.expression.now in
    (agrees, (subst (λ o. Evaluates w.graph (w.out c.args.site.occurrence) c.args.site.place e ts s o ts s) (sym c.number_of.ensures) (number_made w.graph (w.out c.args.site.occurrence) c.args.site.place e c.in-Number.number ts s (ap expression_of c.in-Number.is ∙ number_seen c.in-Number.number)), refl, refl))

pub returns-in-Input-clause-leads : goal.returns-in-Input-clause-leads
returns-in-Input-clause-leads c = λ w agrees.
    let ts = c.args.temporaries.now.items in
    let s = stage_of w c.args.self.now in
    (agrees, subst (λ x. Computes w.graph (w.out c.args.site.occurrence) c.args.site.place x ts s Int an_input ts s) (sym (ap expression_of c.in-Input.is ∙ input_seen)) of_input)

pub returns-in_ok-value-in-Value-clause-leads : goal.returns-in_ok-value-in-Value-clause-leads
returns-in_ok-value-in-Value-clause-leads c = λ w agrees.
    let v = c.in_ok-value-in-Value.ensures.leads w agrees in (
      v.0,
      subst (λ x. IsValue w.graph (w.out c.args.site.occurrence) c.args.site.place x c.args.temporaries.now.items (stage_of w c.args.self.now) c.in_ok-value-in-Value.value c.place_value.new.temporaries.items (stage_of w c.place_value.new.self))
          (sym (ap expression_of c.in-Value.is ∙ value_seen c.in-Value.left)) v.1,
    )

pub returns-in_ok-operand-in-Minus-clause-leads : goal.returns-in_ok-operand-in-Minus-clause-leads
returns-in_ok-operand-in-Minus-clause-leads c = λ w agrees.
    let v = c.in_ok-operand-in-Minus.ensures.leads w agrees in
    let p = c.in_ok-operand-in-Minus.operand in
    let ts = c.args.temporaries.now.items in
    let s = stage_of w c.args.self.now in
    let us = c.evaluate.new.temporaries.items in
    let u = stage_of w c.evaluate.new.self in
    let seen = ap expression_of c.in-Minus.is ∙ minus_seen c.in-Minus.part ∙ ap (λ x. minus (expression_of x)) (sym c.deref.ensures) in (
      v.0,
      subst (λ z. Computes w.graph (w.out c.args.site.occurrence) c.args.site.place (expression_of c.args.expression.now) ts s Int (a_difference z p) us u) (sym c.nothing.ensures)
          (subst (λ x. Computes w.graph (w.out c.args.site.occurrence) c.args.site.place x ts s Int (a_difference (Const (pos 0)) p) us u) (sym seen) (of_minus v.1)),
    )

pub returns-in_ok-value-in-Times-clause-leads : goal.returns-in_ok-value-in-Times-clause-leads
returns-in_ok-value-in-Times-clause-leads c = λ w agrees.
    let v = c.in_ok-value-in-Times.ensures.leads w agrees in
    let first = c.deref-in-Times in
    let second = c.deref-in-Times-2 in
    let seen = ap expression_of c.in-Times.is ∙ times_seen c.in-Times.left c.in-Times.right ∙ ap (λ x. times (expression_of x) (expression_of c.in-Times.right.value)) (sym first.ensures)
    ∙ ap (λ y. times (expression_of first.result.now) (expression_of y)) (sym second.ensures) in
    (v.0, join_valued w.graph (w.out c.args.site.occurrence) c.args.site.place How.Times (expression_of c.args.expression.now) (expression_of first.result.now) (expression_of second.result.now) c.in_ok-value-in-Times.value _ _ _ _ seen v.1)

pub returns-in_ok-value-in-Plus-clause-leads : goal.returns-in_ok-value-in-Plus-clause-leads
returns-in_ok-value-in-Plus-clause-leads c = λ w agrees.
    let v = c.in_ok-value-in-Plus.ensures.leads w agrees in
    let first = c.deref-in-Plus in
    let second = c.deref-in-Plus-2 in
    let seen = ap expression_of c.in-Plus.is ∙ plus_seen c.in-Plus.left c.in-Plus.right ∙ ap (λ x. plus (expression_of x) (expression_of c.in-Plus.right.value)) (sym first.ensures)
    ∙ ap (λ y. plus (expression_of first.result.now) (expression_of y)) (sym second.ensures) in
    (v.0, join_valued w.graph (w.out c.args.site.occurrence) c.args.site.place How.Plus (expression_of c.args.expression.now) (expression_of first.result.now) (expression_of second.result.now) c.in_ok-value-in-Plus.value _ _ _ _ seen v.1)

pub returns-in_ok-value-in-Difference-clause-leads : goal.returns-in_ok-value-in-Difference-clause-leads
returns-in_ok-value-in-Difference-clause-leads c = λ w agrees.
    let v = c.in_ok-value-in-Difference.ensures.leads w agrees in
    let first = c.deref-in-Difference in
    let second = c.deref-in-Difference-2 in
    let seen = ap expression_of c.in-Difference.is ∙ difference_seen c.in-Difference.left c.in-Difference.right ∙ ap (λ x. difference (expression_of x) (expression_of c.in-Difference.right.value)) (sym first.ensures)
    ∙ ap (λ y. difference (expression_of first.result.now) (expression_of y)) (sym second.ensures) in
    (v.0, join_valued w.graph (w.out c.args.site.occurrence) c.args.site.place How.Difference (expression_of c.args.expression.now) (expression_of first.result.now) (expression_of second.result.now) c.in_ok-value-in-Difference.value _ _ _ _ seen v.1)

pub place_value-requires : goal.place_value-requires
place_value-requires c = subst (λ x. IsReady (known c.args.self.now) c.args.site.occurrence x) (ap expression_of c.in-Value.is ∙ value_seen c.in-Value.left) c.requires

pub evaluate-requires : goal.evaluate-requires
evaluate-requires c =
    subst (λ x. IsReady (known c.args.self.now) c.args.site.occurrence x) (ap expression_of c.in-Minus.is ∙ minus_seen c.in-Minus.part ∙ ap (λ x. minus (expression_of x)) (sym c.deref.ensures)) c.requires

pub compute_join-requires-clause-left : goal.compute_join-requires-clause-left
compute_join-requires-clause-left c =
    let seen = (ap expression_of c.in-Times.is ∙ times_seen c.in-Times.left c.in-Times.right ∙ ap (λ x. times (expression_of x) (expression_of c.in-Times.right.value)) (sym c.deref-in-Times.ensures)
    ∙ ap (λ y. times (expression_of c.deref-in-Times.result.now) (expression_of y)) (sym c.deref-in-Times-2.ensures)) in
    let both = subst (λ x. IsReady (known c.args.self.now) c.args.site.occurrence x) seen c.requires in both.0

pub compute_join-requires-clause-right : goal.compute_join-requires-clause-right
compute_join-requires-clause-right c =
    let seen = (ap expression_of c.in-Times.is ∙ times_seen c.in-Times.left c.in-Times.right ∙ ap (λ x. times (expression_of x) (expression_of c.in-Times.right.value)) (sym c.deref-in-Times.ensures)
    ∙ ap (λ y. times (expression_of c.deref-in-Times.result.now) (expression_of y)) (sym c.deref-in-Times-2.ensures)) in
    let both = subst (λ x. IsReady (known c.args.self.now) c.args.site.occurrence x) seen c.requires in both.1

pub compute_join-requires-in-Plus-clause-left : goal.compute_join-requires-in-Plus-clause-left
compute_join-requires-in-Plus-clause-left c =
    let seen = (ap expression_of c.in-Plus.is ∙ plus_seen c.in-Plus.left c.in-Plus.right ∙ ap (λ x. plus (expression_of x) (expression_of c.in-Plus.right.value)) (sym c.deref-in-Plus.ensures)
    ∙ ap (λ y. plus (expression_of c.deref-in-Plus.result.now) (expression_of y)) (sym c.deref-in-Plus-2.ensures)) in
    let both = subst (λ x. IsReady (known c.args.self.now) c.args.site.occurrence x) seen c.requires in both.0

pub compute_join-requires-in-Plus-clause-right : goal.compute_join-requires-in-Plus-clause-right
compute_join-requires-in-Plus-clause-right c =
    let seen = (ap expression_of c.in-Plus.is ∙ plus_seen c.in-Plus.left c.in-Plus.right ∙ ap (λ x. plus (expression_of x) (expression_of c.in-Plus.right.value)) (sym c.deref-in-Plus.ensures)
    ∙ ap (λ y. plus (expression_of c.deref-in-Plus.result.now) (expression_of y)) (sym c.deref-in-Plus-2.ensures)) in
    let both = subst (λ x. IsReady (known c.args.self.now) c.args.site.occurrence x) seen c.requires in both.1

pub compute_join-requires-in-Difference-clause-left : goal.compute_join-requires-in-Difference-clause-left
compute_join-requires-in-Difference-clause-left c =
    let seen = (ap expression_of c.in-Difference.is ∙ difference_seen c.in-Difference.left c.in-Difference.right ∙ ap (λ x. difference (expression_of x) (expression_of c.in-Difference.right.value)) (sym c.deref-in-Difference.ensures)
    ∙ ap (λ y. difference (expression_of c.deref-in-Difference.result.now) (expression_of y)) (sym c.deref-in-Difference-2.ensures)) in
    let both = subst (λ x. IsReady (known c.args.self.now) c.args.site.occurrence x) seen c.requires in both.0

pub compute_join-requires-in-Difference-clause-right : goal.compute_join-requires-in-Difference-clause-right
compute_join-requires-in-Difference-clause-right c =
    let seen = (ap expression_of c.in-Difference.is ∙ difference_seen c.in-Difference.left c.in-Difference.right ∙ ap (λ x. difference (expression_of x) (expression_of c.in-Difference.right.value)) (sym c.deref-in-Difference.ensures)
    ∙ ap (λ y. difference (expression_of c.deref-in-Difference.result.now) (expression_of y)) (sym c.deref-in-Difference-2.ensures)) in
    let both = subst (λ x. IsReady (known c.args.self.now) c.args.site.occurrence x) seen c.requires in both.1
