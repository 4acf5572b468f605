use Rattle.mc_c_parse_simple.proofs.Phrases.{same_same}
use Rattle.mc_c_parse_simple.proofs.simple.SimpleReader.new.Goals as goal

pub returns : goal.returns
returns c = λ aliases. same_same
