use Rattle.mc_c_parse_simple.proofs.Phrases.{then_same}
use Rattle.mc_c_parse_body.proofs.line.declaring.Goals as goal

pub returns : goal.returns
returns c = λ aliases. rw c.in_ok-reader.ensures.ok (then_same (c.behind_base-fresh.ensures aliases))
