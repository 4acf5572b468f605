use Rattle.mc_c_parse_body.proofs.step.at_state.Goals as goal

pub returns-in-Start : goal.returns-in-Start
returns-in-Start c = λ aliases e. rw c.in-Start.is (c.at_start.ensures aliases e)

pub returns-in-Behind : goal.returns-in-Behind
returns-in-Behind c = λ aliases e. c.behind_whole.ensures c.in-Behind.field-0 c.in-Behind.is aliases e

pub returns-in-Line : goal.returns-in-Line
returns-in-Line c = λ aliases e. c.in_line.ensures c.in-Line.field-0 c.in-Line.field-1 c.in-Line.is aliases e

pub returns-in-Freed : goal.returns-in-Freed
returns-in-Freed c = λ aliases e. c.in_freed.ensures c.in-Freed.field-0 c.in-Freed.field-1 c.in-Freed.is aliases

pub returns-in-Condition : goal.returns-in-Condition
returns-in-Condition c = λ aliases e. c.in_condition.ensures c.in-Condition.field-0 c.in-Condition.field-1 c.in-Condition.is aliases

pub returns-in-Return : goal.returns-in-Return
returns-in-Return c = λ aliases e. rw c.in-Return.is (c.behind_return.ensures aliases e)

pub returns-in-Value : goal.returns-in-Value
returns-in-Value c = λ aliases e. c.in_value.ensures c.in-Value.field-0 c.in-Value.field-1 c.in-Value.is aliases e

pub returns-in-ForCondition : goal.returns-in-ForCondition
returns-in-ForCondition c = λ aliases e. c.behind_for_start.ensures c.in-ForCondition.field-0 c.in-ForCondition.field-1 c.in-ForCondition.is aliases

pub returns-in-ForLast : goal.returns-in-ForLast
returns-in-ForLast c = λ aliases e. c.behind_for_condition.ensures c.in-ForLast.field-0 c.in-ForLast.field-1 c.in-ForLast.field-2 c.in-ForLast.is aliases e

pub returns-in-Last : goal.returns-in-Last
returns-in-Last c = λ aliases e. c.in_last.ensures c.in-Last.field-0 c.in-Last.field-1 c.in-Last.field-2 c.in-Last.field-3 c.in-Last.is aliases e

pub returns-in-Shape : goal.returns-in-Shape
returns-in-Shape c = λ aliases e. c.in_shape.ensures c.in-Shape.field-0 c.in-Shape.is aliases
