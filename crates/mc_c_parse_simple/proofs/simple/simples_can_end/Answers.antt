use Rattle.mc_c_parse_simple.proofs.Ends.{simple_can_end}
use Rattle.mc_c_parse_simple.proofs.simple.simples_can_end.Goals as goal

pub returns : goal.returns
returns c = λ aliases reader. simple_can_end c.expressions_can_end.ensures aliases reader
