use Rattle.std.proofs.Common.{refl}
use Rattle.mc_c_parse_simple.proofs.Phrases.{then_same}
use Rattle.mc_c_parse_body.proofs.Beginnings.{next_same}
use Rattle.mc_c_parse_body.proofs.begin.begin_condition.Goals as goal

pub returns : goal.returns
returns c = (refl, λ aliases. rw c.in_ok-inner.ensures.ok (next_same (then_same c.new-fresh.ensures)))
