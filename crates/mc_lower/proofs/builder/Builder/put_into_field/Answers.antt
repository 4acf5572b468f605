use Rattle.std.proofs.Common.{map, subst}
use Rattle.mc_semantics.specs.Resolved.Views.{field_of}
use Rattle.mc_lower_spec.specs.Graphs.{Undefines}
use Rattle.mc_lower.specs.Worlds.{stage_of}
use Rattle.mc_lower.proofs.Assigning.{field_put, walked_some}
use Rattle.mc_lower.proofs.builder.Builder.put_into_field.Goals as goal

pub returns-clause-leads : goal.returns-clause-leads
returns-clause-leads c = λ w agrees.
    let undefined = c.in_ok-undefine.ensures.leads w agrees in
    let stored = c.in_ok-store.ensures.leads w undefined.0 in
    let walked = c.in_ok-base.ensures.leads w stored.0 in
    let fields = map field_of c.args.target.fields.now in
    let last = field_of c.in_ok-base.last in
    let cleared = subst (λ l. Undefines w.graph c.args.site.place l (stage_of w c.store.new.self) (stage_of w c.undefine.new.self)) c.as_slice.ensures.value undefined.1 in (
      walked.0,
      record {
        some = walked_some w.graph c.args.site.place c.local-variable.result c.in_ok-base.base fields last _ _ _ _ walked.1;
        puts = field_put w.graph (w.out c.args.site.occurrence) c.args.site.place c.args.target.variable fields c.local-variable.result c.in_ok-base.base last c.args.operand _ _ _ _ _ _
            (c.local-variable.ensures w walked.0) walked.1 stored.1 cleared;
      },
    )
