use Rattle.std.proofs.Common.{subst}
use Rattle.mc_semantics.specs.Resolved.Views.{expression_of}
use Rattle.mc_lower_spec.specs.Graphs.{Undefines}
use Rattle.mc_lower.specs.Valued.{IsValue}
use Rattle.mc_lower.specs.Worlds.{stage_of}
use Rattle.mc_lower.proofs.Assigning.{set_ready, set_computed}
use Rattle.mc_lower.proofs.builder.Builder.set_to_value.Goals as goal

pub returns-in-Ready-clause-leads : goal.returns-in-Ready-clause-leads
returns-in-Ready-clause-leads c = λ w agrees.
    let copied = c.in_ok-copy-in-Ready.ensures.leads w agrees in
    let v = c.in_ok-operand.ensures.leads w copied.0 in
    let e = expression_of c.args.expression.now in
    let known = subst (λ x. IsValue w.graph (w.out c.args.site.occurrence) c.args.site.place e c.new-temporaries.result.items (stage_of w c.args.self.now) x c.compute.new.temporaries.items (stage_of w c.compute.new.self)) c.in-Ready.is v.1 in
    (v.0, set_ready w.graph (w.out c.args.site.occurrence) c.args.site.place c.args.variable e c.in-Ready.operand _ _ _ _ _ c.new-temporaries.ensures.items known copied.1)

pub returns-clause-leads : goal.returns-clause-leads
returns-clause-leads c = λ w agrees.
    let undefined = c.in_ok-undefine-in-Computed.ensures.leads w agrees in
    let set = c.in_ok-set-in-Computed.ensures.leads w undefined.0 in
    let v = c.in_ok-operand.ensures.leads w set.0 in
    let e = expression_of c.args.expression.now in
    let known = subst (λ x. IsValue w.graph (w.out c.args.site.occurrence) c.args.site.place e c.new-temporaries.result.items (stage_of w c.args.self.now) x c.compute.new.temporaries.items (stage_of w c.compute.new.self)) c.in-Computed.is v.1 in
    let cleared = subst (λ l. Undefines w.graph c.args.site.place l (stage_of w c.set.new.self) (stage_of w c.undefine.new.self)) c.as_slice.ensures.value undefined.1 in
    (v.0, set_computed w.graph (w.out c.args.site.occurrence) c.args.site.place c.args.variable e c.in-Computed.field-0 c.in-Computed.operation _ _ _ _ _ _ c.new-temporaries.ensures.items known set.1 cleared)
