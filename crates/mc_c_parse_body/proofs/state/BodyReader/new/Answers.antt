use Rattle.mc_c_parse_simple.proofs.Phrases.{same_same}
use Rattle.mc_c_parse_body.proofs.state.BodyReader.new.Goals as goal

pub returns : goal.returns
returns c = λ aliases. rw (c.new.ensures.frames, c.new.ensures.body) same_same
