use Rattle.std.proofs.Common.{◌≡◌, [], length, map, sym, subst, arith}
use Rattle.std.proofs.lemmas.Bool.Decides.{nat_tests}
use Rattle.mc_semantics.specs.Resolved.Views.{field_of, expression_of}
use Rattle.mc_lower_spec.specs.Values.{Evaluates}
use Rattle.mc_lower_spec.specs.Lowering.{Changes}
use Rattle.mc_lower.specs.Valued.{joined}
use Rattle.mc_lower.specs.Worlds.{stage_of}
use Rattle.mc_lower.proofs.Agreeing.{is_none}
use Rattle.mc_lower.proofs.builder.Builder.change.Goals as goal

pub returns-then-is_empty-clause-leads : goal.returns-then-is_empty-clause-leads
returns-then-is_empty-clause-leads c = λ w agrees.
    let f = c.is_empty.ensures in
    let o = c.args.left.now.fields.ok.0 in
    let none : length c.args.left.now.fields.items ≡ 0 = grind (arith, nat_tests, c.if-is_empty.true) in
    let changed = c.in_ok-change_variable.ensures.leads w agrees in
    let value = c.in_ok-operand.ensures.leads w changed.0 in
    let e = expression_of c.args.expression.now in
    let s = stage_of w c.args.self.now in
    let m = stage_of w c.evaluate.new.self in
    let out = w.out c.args.site.occurrence in
    let from_none = subst (λ l. Evaluates w.graph out c.args.site.place e l s c.in_ok-operand.operand c.evaluate.new.temporaries.items m) c.new-temporaries.ensures.items value.1 in
    let as_slice = subst (λ l. Evaluates w.graph out c.args.site.place e [] s c.in_ok-operand.operand l m) (sym c.as_slice.ensures.value) from_none in (
      value.0,
      subst (λ fs. Changes w.graph out c.args.site.place (joined c.args.how) (record { variable = c.args.left.now.variable; fields = map field_of fs }) e s (stage_of w c.change_variable.new.self))
          (sym (is_none c.args.left.now.fields.items none)) (changed.1 e s as_slice),
    )

pub returns-clause-leads : goal.returns-clause-leads
returns-clause-leads c = λ w agrees.
    let changed = c.in_ok-change_field.ensures.leads w agrees in
    let value = c.in_ok-operand.ensures.leads w changed.0 in
    let e = expression_of c.args.expression.now in
    let s = stage_of w c.args.self.now in
    (value.0, changed.1 e s (subst (λ l. Evaluates w.graph (w.out c.args.site.occurrence) c.args.site.place e l s c.in_ok-operand.operand c.evaluate.new.temporaries.items (stage_of w c.evaluate.new.self)) c.new-temporaries.ensures.items value.1))
