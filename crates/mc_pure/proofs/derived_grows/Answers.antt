use Rattle.mc_pure.proofs.True.{follows_from_more, false_from_more}
use Rattle.mc_pure.proofs.derived_grows.Goals as goal

pub returns : goal.returns
returns c = record { atoms = follows_from_more; false_stays = false_from_more }
