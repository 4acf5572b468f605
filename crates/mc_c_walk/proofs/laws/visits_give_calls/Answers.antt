use Rattle.mc_c_walk.proofs.Calls.{calls_given}
use Rattle.mc_c_walk.proofs.laws.visits_give_calls.Goals as goal

pub returns : goal.returns
returns c = calls_given
