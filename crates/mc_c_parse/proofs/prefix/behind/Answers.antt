use Rattle.mc_c_parse.proofs.PrefixLemmas.{no_end_at, stuck_within}
use Rattle.mc_c_parse.proofs.prefix.behind.Goals as goal

pub unreachable-requires : goal.unreachable-requires
unreachable-requires c = no_end_at _ _ c.token-item.result c.requires.no_end c.loop-token-test.true c.token-item.is (rw c.in-Done.is at c.in_ok-step.ensures).end

pub returns-in-Stuck : goal.returns-in-Stuck
returns-in-Stuck c = stuck_within _ _ c.token-item.result c.loop-token-test.true c.token-item.is c.loop-token.invariant.through (rw c.in-Stuck.is at c.in_ok-step.ensures)
