use Rattle.mc_c_parse_simple.proofs.Ends.{right_can_end}
use Rattle.mc_c_parse_simple.proofs.right.rights_can_end.Goals as goal

pub returns : goal.returns
returns c = λ aliases reader. right_can_end c.expressions_can_end.ensures aliases reader
