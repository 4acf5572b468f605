use Rattle.std.proofs.Common.{map, subst}
use Rattle.mc_base.specs.declared.plain.Kind.TheVariants.{Int}
use Rattle.mc_semantics.specs.Resolved.Views.{field_of}
use Rattle.mc_lower_spec.specs.Graphs.{Undefines}
use Rattle.mc_lower_spec.specs.Values.{Takes, Walks}
use Rattle.mc_lower.specs.Valued.{joined}
use Rattle.mc_lower.specs.Worlds.{stage_of}
use Rattle.mc_lower.proofs.Assigning.{field_changed}
use Rattle.mc_lower.proofs.builder.Builder.change_field.Goals as goal

pub returns-clause-leads : goal.returns-clause-leads
returns-clause-leads c = λ w agrees.
    let place = c.args.site.place in
    let undefined = c.in_ok-undefine.ensures.leads w agrees in
    let stored = c.in_ok-store.ensures.leads w undefined.0 in
    let computed = c.in_ok-new.ensures.leads w stored.0 in
    let loaded = c.in_ok-old.ensures.leads w computed.0 in
    let walked = c.in_ok-base.ensures.leads w loaded.0 in
    let last = field_of c.in_ok-base.last in
    let fields = c.args.left.now.fields.items in
    let walks_there = subst (λ fs. Walks w.graph place c.local-variable.result (map field_of fs) c.args.temporaries.now.items (stage_of w c.args.self.now) c.in_ok-base.base last c.walk.new.temporaries.items (stage_of w c.walk.new.self))
    c.as_slice.ensures.value walked.1 in
    let operation = subst (λ op. Takes w.graph place Int op c.take.new.temporaries.items (stage_of w c.take.new.self) c.in_ok-new.new c.take-2.new.temporaries.items (stage_of w c.take-2.new.self)) c.of-changed.ensures computed.1 in
    let cleared = subst (λ l. Undefines w.graph place l (stage_of w c.store.new.self) (stage_of w c.undefine.new.self)) c.as_slice-2.ensures.value undefined.1 in (
      walked.0,
      λ e r value. field_changed w.graph (w.out c.args.site.occurrence) place (joined c.args.how) c.args.left.now.variable (map field_of fields) e c.args.operand c.local-variable.result
          c.in_ok-base.base c.in_ok-old.old c.in_ok-new.new last c.field_kind-kind.result _ _ _ _ r _ _ _ _ _ _ value (c.local-variable.ensures w walked.0) walks_there (c.field_kind-kind.ensures w loaded.0) loaded.1
          operation stored.1 cleared,
    )
