use Rattle.mc_cover.proofs.Near.{near_first}
use Rattle.mc_cover.proofs.laws.near_is_first.Goals as goal

pub returns : goal.returns
returns c = near_first
