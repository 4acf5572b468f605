use Rattle.mc_c_parse_body.proofs.step.behind_for_start.Goals as goal

pub returns-in-ForCondition : goal.returns-in-ForCondition
returns-in-ForCondition c = λ place start is aliases. rw c.in-ForCondition.is (rw c.replace-start.ensures.value at (c.at_for_condition.ensures aliases))

pub returns-in_default : goal.returns-in_default
returns-in_default c = λ place start is aliases. absurd (c.in_default.not-ForCondition place start is)
