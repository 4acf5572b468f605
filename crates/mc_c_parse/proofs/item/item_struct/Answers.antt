use Rattle.mc_c_parse.proofs.Threads.{then_takes, then_closes}
use Rattle.mc_c_parse.proofs.item.item_struct.Goals as goal

pub returns-in-Taken : goal.returns-in-Taken
returns-in-Taken c = λ aliases known. then_takes (rw c.in-Taken.is at (c.in_ok-reader.ensures aliases known))

pub returns-in-Closed : goal.returns-in-Closed
returns-in-Closed c = λ aliases known. then_closes _ (rw c.in-Closed.is at (c.in_ok-reader.ensures aliases known))

pub returns-in-Stuck : goal.returns-in-Stuck
returns-in-Stuck c = λ aliases known tokens rest x n. (rw c.in-Stuck.is at (c.in_ok-reader.ensures aliases known)) tokens n.1 n.0 n.2
