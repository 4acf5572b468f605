use Rattle.mc_state.proofs.Back.{back_told}
use Rattle.mc_state.proofs.told.back_is_told.Goals as goal

pub returns : goal.returns
returns c = back_told
