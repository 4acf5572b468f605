use Rattle.mc_c_parse_simple.proofs.Phrases.{same_same}
use Rattle.mc_c_parse_body.proofs.shape.behind_use.Goals as goal

pub returns-in-Start : goal.returns-in-Start
returns-in-Start c = rw (c.in-Start.is, c.new.ensures.items) same_same

pub returns-in_ok-push-in-Last : goal.returns-in_ok-push-in-Last
returns-in_ok-push-in-Last c = rw (c.in-Last.is, c.in_ok-push-in-Last.ensures.items) same_same
