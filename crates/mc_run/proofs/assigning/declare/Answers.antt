use Rattle.mc_run.proofs.assigning.declare.Goals as goal

pub returns-in_ok-stepped-in-Some : goal.returns-in_ok-stepped-in-Some
returns-in_ok-stepped-in-Some c = rw c.in-Some.is c.in_ok-stepped-in-Some.ensures
