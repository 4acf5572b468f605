use Rattle.std.proofs.Common.{sym, subst}
use Rattle.mc_semantics.specs.Resolved.Views.{right_of}
use Rattle.mc_lower_spec.specs.Lowering.{Assigns}
use Rattle.mc_lower.specs.Valued.{target_of}
use Rattle.mc_lower.specs.Worlds.{stage_of}
use Rattle.mc_lower.proofs.builder.Builder.assign_field.Goals as goal

pub returns-in_ok-assign_value-in-Expression-clause-leads : goal.returns-in_ok-assign_value-in-Expression-clause-leads
returns-in_ok-assign_value-in-Expression-clause-leads c = λ w agrees.
    let set = c.in_ok-assign_value-in-Expression.ensures.leads w agrees in
    (set.0, subst (λ r. Assigns w.graph (w.out c.args.site.occurrence) c.args.site.place (target_of c.args.target) (right_of r) (stage_of w c.args.self.now) (stage_of w c.assign_value.new.self)) (sym c.in-Expression.is) set.1)

pub returns-in_ok-assign_new-in-Malloc-clause-leads : goal.returns-in_ok-assign_new-in-Malloc-clause-leads
returns-in_ok-assign_new-in-Malloc-clause-leads c = λ w agrees.
    let set = c.in_ok-assign_new-in-Malloc.ensures.leads w agrees in
    (set.0, subst (λ r. Assigns w.graph (w.out c.args.site.occurrence) c.args.site.place (target_of c.args.target) (right_of r) (stage_of w c.args.self.now) (stage_of w c.assign_new.new.self)) (sym c.in-Malloc.is) set.1)
