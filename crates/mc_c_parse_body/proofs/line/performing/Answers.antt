use Rattle.mc_c_parse_simple.proofs.Phrases.{same_same}
use Rattle.mc_c_parse_body.proofs.line.performing.Goals as goal

pub returns : goal.returns
returns c = λ aliases. rw c.in_ok-reader.ensures.ok same_same
