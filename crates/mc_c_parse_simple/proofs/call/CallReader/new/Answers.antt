use Rattle.mc_c_parse_simple.proofs.Phrases.{same_same}
use Rattle.mc_c_parse_simple.proofs.call.CallReader.new.Goals as goal

pub returns : goal.returns
returns c = rw c.new.ensures.items same_same
