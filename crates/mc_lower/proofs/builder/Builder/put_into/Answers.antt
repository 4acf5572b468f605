use Rattle.std.proofs.Common.{◌≡◌, [], length, map, sym, subst, arith}
use Rattle.std.proofs.lemmas.Bool.Decides.{nat_tests}
use Rattle.mc_semantics.specs.Resolved.Views.{field_of}
use Rattle.mc_lower_spec.specs.Values.{Puts}
use Rattle.mc_lower.specs.Worlds.{stage_of}
use Rattle.mc_lower.proofs.Agreeing.{is_none}
use Rattle.mc_lower.proofs.builder.Builder.put_into.Goals as goal

pub returns-then-is_empty-clause-leads : goal.returns-then-is_empty-clause-leads
returns-then-is_empty-clause-leads c = λ w agrees.
    let f = c.is_empty.ensures in
    let none : length c.args.target.fields.now ≡ 0 = grind (arith, nat_tests, c.if-is_empty.true) in
    let put = c.in_ok-put_into_variable.ensures.leads w agrees in
    let s = stage_of w c.args.self.now in
    let u = stage_of w c.put_into_variable.new.self in
    let items = subst (λ l. Puts w.graph (w.out c.args.site.occurrence) c.args.site.place (record { variable = c.args.target.variable; fields = [] }) c.args.operand l s u) c.as_slice.ensures.value put.1 in (
      put.0,
      subst (λ fs. Puts w.graph (w.out c.args.site.occurrence) c.args.site.place (record { variable = c.args.target.variable; fields = map field_of fs }) c.args.operand c.args.temporaries.now.items s u)
          (sym (is_none c.args.target.fields.now none)) items,
    )

pub returns-clause-leads : goal.returns-clause-leads
returns-clause-leads c = λ w agrees. let put = c.in_ok-put_into_field.ensures.leads w agrees in (put.0, put.1.puts)
