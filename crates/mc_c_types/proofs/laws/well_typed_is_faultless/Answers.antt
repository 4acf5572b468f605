use Rattle.mc_c_types.proofs.Wells.{is_faultless}
use Rattle.mc_c_types.proofs.laws.well_typed_is_faultless.Goals as goal

pub returns : goal.returns
returns c = is_faultless
