use Rattle.mc_c_parse.proofs.PrefixLemmas.{run_stops, begins}
use Rattle.mc_c_parse.proofs.WholeLemmas.{behind_none}
use Rattle.mc_c_parse.proofs.Threads.{if_ok}
use Rattle.mc_c_parse.proofs.prefix.can_begin.Goals as goal

pub returns-in-None : goal.returns-in-None
returns-in-None c = run_stops _ _ (behind_none _ _ c.new.ensures.none c.new.ensures.starts) (rw c.in-None.is at c.in_ok-reader.ensures)

pub returns-in-Some : goal.returns-in-Some
returns-in-Some c = if_ok c.can_go_on.result (λ can says. begins _ _ (behind_none _ _ c.new.ensures.none c.new.ensures.starts) (rw c.in-Some.is at c.in_ok-reader.ensures).1 can says) c.can_go_on.ensures
