use Rattle.mc_c_parse_body.proofs.shape.ShapeReader.step.Goals as goal

pub returns-in-Predicate : goal.returns-in-Predicate
returns-in-Predicate c = rw c.in-Predicate.is c.at_predicate.ensures

pub returns-in-Comma : goal.returns-in-Comma
returns-in-Comma c = rw c.in-Comma.is c.at_comma.ensures

pub returns-in-Variable : goal.returns-in-Variable
returns-in-Variable c = rw c.in-Variable.is c.at_variable.ensures

pub returns-in-Argument : goal.returns-in-Argument
returns-in-Argument c = rw c.in-Argument.is c.at_argument.ensures

pub returns-in-Negative : goal.returns-in-Negative
returns-in-Negative c = rw c.in-Negative.is c.behind_minus.ensures

pub returns-in-Arguments : goal.returns-in-Arguments
returns-in-Arguments c = rw c.in-Arguments.is c.behind_arguments.ensures
