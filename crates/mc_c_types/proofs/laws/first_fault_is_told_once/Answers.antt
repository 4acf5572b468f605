use Rattle.mc_c_types.proofs.Wells.{is_told_once}
use Rattle.mc_c_types.proofs.laws.first_fault_is_told_once.Goals as goal

pub returns : goal.returns
returns c = is_told_once
