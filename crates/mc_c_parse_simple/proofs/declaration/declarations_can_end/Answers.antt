use Rattle.mc_c_parse_simple.proofs.Ends.{declaration_can_end}
use Rattle.mc_c_parse_simple.proofs.declaration.declarations_can_end.Goals as goal

pub returns : goal.returns
returns c = λ aliases reader. declaration_can_end c.expressions_can_end.ensures aliases reader
