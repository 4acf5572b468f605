use Rattle.std.proofs.Common.{◌≡◌, length, map, sym, subst, arith}
use Rattle.std.proofs.lemmas.Bool.Decides.{nat_tests}
use Rattle.mc_semantics.specs.Resolved.Views.{field_of, right_of}
use Rattle.mc_lower_spec.specs.Lowering.{Assigns, assigns_variable}
use Rattle.mc_lower.specs.Worlds.{stage_of}
use Rattle.mc_lower.proofs.Agreeing.{is_none}
use Rattle.mc_lower.proofs.builder.Builder.assign.Goals as goal

pub returns-then-is_empty-clause-leads : goal.returns-then-is_empty-clause-leads
returns-then-is_empty-clause-leads c = λ w agrees.
    let f = c.is_empty.ensures in
    let none : length c.args.target.fields.now ≡ 0 = grind (arith, nat_tests, c.if-is_empty.true) in
    let set = c.in_ok-set_to.ensures.leads w agrees in (
      set.0,
      subst (λ fs. Assigns w.graph (w.out c.args.site.occurrence) c.args.site.place (record { variable = c.args.target.variable; fields = map field_of fs }) (right_of c.args.right.now) (stage_of w c.args.self.now) (stage_of w c.set_to.new.self))
          (sym (is_none c.args.target.fields.now none)) (assigns_variable (c.local-variable.ensures w set.0) set.1),
    )
