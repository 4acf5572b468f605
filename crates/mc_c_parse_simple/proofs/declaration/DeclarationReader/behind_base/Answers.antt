use Rattle.mc_c_parse_simple.proofs.Phrases.{same_same}
use Rattle.mc_c_parse_simple.proofs.declaration.DeclarationReader.behind_base.Goals as goal

pub returns : goal.returns
returns c = λ aliases. rw c.new.ensures.items same_same
