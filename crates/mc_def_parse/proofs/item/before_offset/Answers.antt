use Rattle.mc_def_parse.proofs.Steps.{takes_number}
use Rattle.mc_def_parse.proofs.item.before_offset.Goals as goal

pub returns-in-Some : goal.returns-in-Some
returns-in-Some c = takes_number (rw c.in-Some.is at c.number.ensures)

pub returns-in-None : goal.returns-in-None
returns-in-None c = let never = (rw c.in-None.is at c.number.ensures) in λ tokens rest x f. never f.0 f.1
