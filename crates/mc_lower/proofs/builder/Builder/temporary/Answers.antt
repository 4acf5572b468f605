use Rattle.std.proofs.Common.{sym, ◌∙◌}
use Rattle.mc_lower.proofs.Having.{with_none}
use Rattle.std.proofs.Common.{subst}
use Rattle.mc_lower_spec.specs.Graphs.{temporary, Creates, uses_first, uses_again}
use Rattle.mc_lower.specs.Worlds.{stage_of}
use Rattle.mc_lower.proofs.builder.Builder.temporary.Goals as goal

pub returns-in-Some-clause-leads : goal.returns-in-Some-clause-leads
returns-in-Some-clause-leads c = λ w agrees. (agrees, uses_again (c.in-Some.ensures.made w agrees))

pub returns-clause-leads : goal.returns-clause-leads
returns-clause-leads c = λ w agrees.
    let later = c.in_ok-variable.ensures.leads w agrees in
    let named = subst (λ n. Creates w.graph (temporary c.args.number c.args.kind) (record { name = n; kind = c.args.kind }) (stage_of w c.args.self.now) c.in_ok-variable.variable (stage_of w c.create.new.self)) c.new-name.ensures later.1 in
    (later.0, uses_first named)

pub returns-clause-same : goal.returns-clause-same
returns-clause-same c = c.in_ok-variable.ensures.same ∙ sym (with_none c.args.self.now)
