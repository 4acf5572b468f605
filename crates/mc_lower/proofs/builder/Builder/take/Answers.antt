use Rattle.std.proofs.Common.{◌∙◌}
use Rattle.mc_lower.specs.Valued.{operation_of}
use Rattle.mc_lower.proofs.Valuing.{taken}
use Rattle.mc_lower.proofs.builder.Builder.take.Goals as goal

pub returns-clause-leads : goal.returns-clause-leads
returns-clause-leads c = λ w agrees.
    let later = c.in_ok-set.ensures.leads w agrees in
    let first = c.in_ok-variable.ensures.leads w later.0 in
    (first.0, taken w.graph c.args.place c.args.kind (operation_of c.args.operation) c.args.temporaries.now.items _ _ _ _ _ c.in_ok-variable.variable (c.len.ensures ∙ c.args.temporaries.now.ok.0) c.in_ok-push.ensures.items first.1 later.1)
