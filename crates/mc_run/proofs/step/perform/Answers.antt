use Rattle.mc_run.proofs.step.perform.Goals as goal

pub returns-in_ok-stepped-in-Assign : goal.returns-in_ok-stepped-in-Assign
returns-in_ok-stepped-in-Assign c = rw c.in-Assign.is c.in_ok-stepped-in-Assign.ensures

pub returns-in_ok-stepped-in-Add : goal.returns-in_ok-stepped-in-Add
returns-in_ok-stepped-in-Add c = rw c.in-Add.is c.in_ok-stepped-in-Add.ensures

pub returns-in_ok-stepped-in-Subtract : goal.returns-in_ok-stepped-in-Subtract
returns-in_ok-stepped-in-Subtract c = rw c.in-Subtract.is c.in_ok-stepped-in-Subtract.ensures

pub returns-in_ok-stepped-in-Call : goal.returns-in_ok-stepped-in-Call
returns-in_ok-stepped-in-Call c = rw c.in-Call.is c.in_ok-stepped-in-Call.ensures
