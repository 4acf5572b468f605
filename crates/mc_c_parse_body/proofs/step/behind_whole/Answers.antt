use Rattle.mc_c_parse_body.proofs.step.behind_whole.Goals as goal

pub returns-in-Behind : goal.returns-in-Behind
returns-in-Behind c = λ statement is aliases e. rw c.in-Behind.is (rw c.replace-whole.ensures.value at (c.behind.ensures aliases e))

pub returns-in_default : goal.returns-in_default
returns-in_default c = λ statement is aliases e. absurd (c.in_default.not-Behind statement is)
