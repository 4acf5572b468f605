use Rattle.std.proofs.Common.{◌≡◌, refl, sym, subst, length, map, arith}
use Rattle.std.proofs.lemmas.Bool.Decides.{nat_tests}
use Rattle.mc_flow.specs.declared.instr.Operand.TheVariants.{Var}
use Rattle.mc_semantics.specs.Resolved.Programs.{value}
use Rattle.mc_semantics.specs.Resolved.Views.{field_of}
use Rattle.mc_lower_spec.specs.Values.{Evaluates, of_variable, Walks}
use Rattle.mc_lower.specs.Worlds.{stage_of}
use Rattle.mc_lower.proofs.Agreeing.{is_none}
use Rattle.mc_lower.proofs.Assigning.{field_computed}
use Rattle.mc_lower.proofs.builder.Builder.place_value.Goals as goal

pub returns-then-is_empty-clause-leads : goal.returns-then-is_empty-clause-leads
returns-then-is_empty-clause-leads c = λ w agrees.
    let f = c.is_empty.ensures in
    let o = c.args.left.now.fields.ok.0 in
    let none : length c.args.left.now.fields.items ≡ 0 = grind (arith, nat_tests, c.if-is_empty.true) in
    let ts = c.args.temporaries.now.items in
    let s = stage_of w c.args.self.now in
    let v = c.local-variable.result in (
      agrees,
      (
        subst (λ fs. Evaluates w.graph (w.out c.args.site.occurrence) c.args.site.place (value (record { variable = c.args.left.now.variable; fields = map field_of fs })) ts s (Var v) ts s)
            (sym (is_none c.args.left.now.fields.items none)) (of_variable (c.local-variable.ensures w agrees)),
        refl,
        refl,
      ),
    )

pub returns-clause-leads : goal.returns-clause-leads
returns-clause-leads c = λ w agrees.
    let walked = c.in_ok-base.ensures.leads w agrees in
    let last = field_of c.in_ok-base.last in
    let there = subst (λ fs. Walks w.graph c.args.site.place c.local-variable.result (map field_of fs) c.args.temporaries.now.items (stage_of w c.args.self.now) c.in_ok-base.base last c.walk.new.temporaries.items (stage_of w c.walk.new.self))
    c.as_slice.ensures.value walked.1 in
    (walked.0, field_computed w.graph (w.out c.args.site.occurrence) c.args.site.place c.args.left.now.variable (map field_of c.args.left.now.fields.items) _ _ last _ _ _ _ _ (c.local-variable.ensures w walked.0) there (c.field_kind-kind.ensures w agrees))
