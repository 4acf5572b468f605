use Rattle.mc_c_walk.proofs.Uses.{uses_given}
use Rattle.mc_c_walk.proofs.laws.visits_give_uses.Goals as goal

pub returns : goal.returns
returns c = uses_given
