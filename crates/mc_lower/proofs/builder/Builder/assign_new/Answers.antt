use Rattle.std.proofs.Common.{ap, ◌∙◌}
use Rattle.mc_flow.specs.Steps.{field_count}
use Rattle.std.proofs.Common.{◌++◌, [], ◌∷◌, ap, ◌∙◌, map}
use Rattle.mc_semantics.specs.Resolved.Views.{field_of}
use Rattle.mc_lower.proofs.Assigning.{allocated_assigned}
use Rattle.mc_lower.proofs.builder.Builder.assign_new.Goals as goal

pub returns-clause-leads : goal.returns-clause-leads
returns-clause-leads c = λ w agrees.
    let put = c.in_ok-put_into_field.ensures.leads w agrees in
    let allocated = c.in_ok-allocate.ensures.leads w put.0 in
    let used = c.in_ok-variable.ensures.leads w allocated.0 in
    let counted = ap (λ s. field_count s c.args.shape) used.0.structs ∙ c.requires.count in (
      used.0,
      allocated_assigned w.graph (w.out c.args.site.occurrence) c.args.site.place c.args.target.variable (map field_of c.args.target.fields.now) c.args.shape.0 c.args.count c.in_ok-variable.variable _ _ _ _ _ put.1.some
          (c.in_ok-push.ensures.items ∙ ap (λ l. l ++ c.in_ok-variable.variable ∷ []) c.new-temporaries.ensures.items) counted used.1 allocated.1 put.1.puts,
    )
