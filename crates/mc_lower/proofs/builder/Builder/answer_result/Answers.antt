use Rattle.mc_lower.proofs.builder.Builder.answer_result.Goals as goal

pub returns-clause-leads : goal.returns-clause-leads
returns-clause-leads c = λ w agrees.
    let gone = c.in_ok-go_out.ensures.leads w agrees in
    let cleared = c.in_ok-undefine.ensures.leads w gone.0 in
    let copied = c.in_ok-copy.ensures.leads w cleared.0 in
    (copied.0, record { returned = c.in-Some.returned; there = c.in-Some.is; copied = _; undefined = _; appends = copied.1; undefines = cleared.1; goes = gone.1 })
