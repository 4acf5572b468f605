use Rattle.mc_check_line.proofs.JumpLemmas.Needs.{jumps_fit}
use Rattle.mc_check_line.proofs.jump.laws.jumps_are_fits.Goals as goal

pub returns : goal.returns
returns c = jumps_fit
