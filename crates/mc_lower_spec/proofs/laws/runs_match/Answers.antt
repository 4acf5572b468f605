use Rattle.mc_lower_spec.proofs.Running.{runs_match}
use Rattle.mc_lower_spec.proofs.laws.runs_match.Goals as goal

pub returns : goal.returns
returns c = runs_match
