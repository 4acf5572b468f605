use Rattle.mc_lower_spec.specs.Values.{puts_variable}
use Rattle.mc_lower.proofs.builder.Builder.put_into_variable.Goals as goal

pub returns-clause-leads : goal.returns-clause-leads
returns-clause-leads c = λ w agrees.
    let undefined = c.in_ok-undefine.ensures.leads w agrees in
    let copied = c.in_ok-copy.ensures.leads w undefined.0 in
    (copied.0, puts_variable (c.local-variable.ensures w copied.0) copied.1 undefined.1)
