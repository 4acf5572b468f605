use Rattle.mc_real.proofs.Bounding.{runs_are_short}
use Rattle.mc_real.proofs.near.runs_are_short.Goals as goal

pub returns : goal.returns
returns c = runs_are_short
