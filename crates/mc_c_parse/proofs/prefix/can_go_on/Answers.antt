use Rattle.mc_c_parse.proofs.PrefixLemmas.{run_decides}
use Rattle.mc_c_parse.specs.Units.{CompletesUnit}
use Rattle.mc_c_parse.proofs.prefix.can_go_on.Goals as goal

pub returns : goal.returns
returns c = rw c.is_some-can.ensures (run_decides (CompletesUnit c.args.reader) _ c.bodies_can_end.ensures _ c.in_ok-next.ensures)
