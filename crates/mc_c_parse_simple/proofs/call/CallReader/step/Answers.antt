use Rattle.mc_c_parse_simple.proofs.call.CallReader.step.Goals as goal

pub returns-in-First : goal.returns-in-First
returns-in-First c = rw c.in-First.is c.first.ensures

pub returns-in-Argument : goal.returns-in-Argument
returns-in-Argument c = rw c.in-Argument.is c.in_argument.ensures
