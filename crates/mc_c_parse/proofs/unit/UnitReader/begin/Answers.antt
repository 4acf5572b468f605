use Rattle.mc_c_parse.proofs.UnitLemmas.{unit_done}
use Rattle.mc_c_parse.proofs.unit.UnitReader.begin.Goals as goal

pub returns-in-End : goal.returns-in-End
returns-in-End c = rw (c.requires.between, c.replace-items.ensures.value) (unit_done _ _ (rw c.in-End.is at c.requires.of))
