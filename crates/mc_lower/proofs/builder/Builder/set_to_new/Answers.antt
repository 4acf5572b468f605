use Rattle.std.proofs.Common.{ap, ◌∙◌}
use Rattle.mc_flow.specs.Steps.{field_count}
use Rattle.mc_lower_spec.specs.Lowering.{sets_allocated}
use Rattle.mc_lower.proofs.builder.Builder.set_to_new.Goals as goal

pub returns-clause-leads : goal.returns-clause-leads
returns-clause-leads c = λ i w agrees.
    let allocated = c.in_ok-allocate.ensures.leads w agrees in
    (allocated.0, sets_allocated (ap (λ s. field_count s c.args.shape) allocated.0.structs ∙ c.requires) allocated.1)
