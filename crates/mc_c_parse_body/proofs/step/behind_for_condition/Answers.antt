use Rattle.mc_c_parse_body.proofs.step.behind_for_condition.Goals as goal

pub returns-in-ForLast : goal.returns-in-ForLast
returns-in-ForLast c = λ place start condition is aliases e. rw c.in-ForLast.is (rw (c.replace-start.ensures.value, c.replace-condition.ensures.value) at (c.at_last.ensures aliases e))

pub returns-in_default : goal.returns-in_default
returns-in_default c = λ place start condition is aliases e. absurd (c.in_default.not-ForLast place start condition is)
