use Rattle.mc_joins.proofs.Stuck.{stuck_is_every}
use Rattle.mc_joins.proofs.laws.stuck_is_every.Goals as goal

pub returns : goal.returns
returns c = stuck_is_every
