use Rattle.mc_joins.proofs.Once.{joins_are_determined}
use Rattle.mc_joins.proofs.laws.joins_are_determined.Goals as goal

pub returns : goal.returns
returns c = joins_are_determined c.derived_grows.ensures.atoms
