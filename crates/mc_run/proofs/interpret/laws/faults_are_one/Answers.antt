use Rattle.mc_run.proofs.InterpretLemmas.Once as proof
use Rattle.mc_run.proofs.interpret.laws.faults_are_one.Goals as goal

pub returns : goal.returns
returns c = proof.faults_are_one c.steps_are_determined.ensures c.programs_come_to_one_end.ensures.once c.programs_step_end_or_wait.ensures
