use Rattle.std.proofs.Common.{refl}
use Rattle.mc_lower.specs.declared.variables.Owner.{Owner}
use Rattle.mc_lower.proofs.Having.{new_if}
use Rattle.std.proofs.Common.{subst, ◌∙◌}
use Rattle.mc_lower_spec.specs.Graphs.{result, Creates}
use Rattle.mc_lower.specs.Worlds.{stage_of}
use Rattle.mc_lower.proofs.builder.Builder.create_result.Goals as goal

pub returns-clause-leads : goal.returns-clause-leads
returns-clause-leads c = λ w agrees.
    let made = c.in_ok-variable.ensures.leads w agrees in (
      made.0,
      subst (λ n. Creates w.graph (result (w.out c.args.occurrence)) (record { name = n; kind = c.args.kind }) (stage_of w c.args.self.now) c.in_ok-variable.variable (stage_of w c.create.new.self))
          (c.of-name.ensures ∙ c.in_ok-from_slice.ensures.items) made.1,
    )

pub create-requires : goal.create-requires
create-requires c = new_if c.args.self.now.variables.list.items (Owner.Result c.args.occurrence) refl c.requires
