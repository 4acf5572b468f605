use Rattle.mc_run.proofs.step.take.Goals as goal

pub returns-in-Variable : goal.returns-in-Variable
returns-in-Variable c = rw c.in-Variable.is c.assign_taken.ensures

pub returns-in-Stored : goal.returns-in-Stored
returns-in-Stored c = rw c.in-Stored.is c.assign_taken-in-Stored.ensures

pub returns-in_ok-stepped-in-Returned : goal.returns-in_ok-stepped-in-Returned
returns-in_ok-stepped-in-Returned c = rw c.in-Returned.is c.in_ok-stepped-in-Returned.ensures
