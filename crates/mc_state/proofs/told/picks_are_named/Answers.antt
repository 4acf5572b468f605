use Rattle.mc_state.proofs.Named.{picks_named}
use Rattle.mc_state.proofs.told.picks_are_named.Goals as goal

pub returns : goal.returns
returns c = picks_named
