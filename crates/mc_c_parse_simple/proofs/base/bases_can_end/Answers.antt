use Rattle.mc_c_parse_simple.proofs.Ends.{base_can_end}
use Rattle.mc_c_parse_simple.proofs.base.bases_can_end.Goals as goal

pub returns : goal.returns
returns c = λ aliases reader. base_can_end aliases reader
