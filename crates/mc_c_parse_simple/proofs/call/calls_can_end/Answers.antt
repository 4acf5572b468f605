use Rattle.mc_c_parse_simple.proofs.Ends.{call_can_end}
use Rattle.mc_c_parse_simple.proofs.call.calls_can_end.Goals as goal

pub returns : goal.returns
returns c = λ reader. call_can_end c.expressions_can_end.ensures reader
