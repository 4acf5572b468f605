use Rattle.mc_state.proofs.Merging.{stands_renamed}
use Rattle.mc_state.proofs.Renaming.{renamed_stands}
use Rattle.mc_state.proofs.laws.renaming_is_sound.Goals as goal

pub returns : goal.returns
returns c = record { back = renamed_stands; forth = stands_renamed }
