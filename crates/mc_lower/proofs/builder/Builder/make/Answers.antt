use Rattle.mc_lower.proofs.builder.Builder.make.Goals as goal

pub returns-clause-leads : goal.returns-clause-leads
returns-clause-leads c = λ w agrees.
    let taken = c.in_ok-variable.ensures.leads w agrees in
    (taken.0, record { variable = c.in_ok-variable.variable; taken = taken.1; kept = c.in_ok-push.ensures })
