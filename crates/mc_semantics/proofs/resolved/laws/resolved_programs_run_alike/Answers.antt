use Rattle.mc_semantics.proofs.ResolvedLemmas.Running.{step_alike, run_alike}
use Rattle.mc_semantics.proofs.resolved.laws.resolved_programs_run_alike.Goals as goal

pub returns-clause-steps : goal.returns-clause-steps
returns-clause-steps c = step_alike

pub returns-clause-runs : goal.returns-clause-runs
returns-clause-runs c = run_alike
