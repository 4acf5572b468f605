use Rattle.mc_run.proofs.conditions.test.Goals as goal

pub returns-in_ok-stepped-in-Plain : goal.returns-in_ok-stepped-in-Plain
returns-in_ok-stepped-in-Plain c = rw c.in-Plain.is c.in_ok-stepped-in-Plain.ensures

pub returns-in_ok-stepped-in-Compare : goal.returns-in_ok-stepped-in-Compare
returns-in_ok-stepped-in-Compare c = rw c.in-Compare.is c.in_ok-stepped-in-Compare.ensures
