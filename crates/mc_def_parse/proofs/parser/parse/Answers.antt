use Rattle.mc_def_parse.proofs.Viable.{can_file}
use Rattle.mc_def_parse.proofs.WholeLemmas.{behind_none, behind_next, take_next, only_file, stops_at, never}
use Rattle.std.proofs.Common.{refl}
use Rattle.mc_def_parse.proofs.parser.parse.Goals as goal

pub loop-token-init : goal.loop-token-init
loop-token-init c = behind_none _ c.new-reader.ensures.at c.new-reader.ensures.done

pub loop-token-preserved : goal.loop-token-preserved
loop-token-preserved c = rw (take_next _ _ c.token-item.result c.loop-token-test.true c.token-item.is) (behind_next _ _ c.loop-token.invariant (rw c.in-Taken.is at c.in_ok-step.ensures))

pub returns-in-Closed-clause-read : goal.returns-in-Closed-clause-read
returns-in-Closed-clause-read c = only_file _ _ c.token-item.result _ c.requires c.loop-token-test.true c.token-item.is c.loop-token.invariant (rw c.in-Closed.is at c.in_ok-step.ensures)

pub returns-in-Stuck-clause-refused : goal.returns-in-Stuck-clause-refused
returns-in-Stuck-clause-refused c = (refl, stops_at _ _ c.token-item.result c.loop-token-test.true c.token-item.is c.loop-token.invariant (can_file c.loop-token.reader) (rw c.in-Stuck.is at c.in_ok-step.ensures))

pub unreachable-requires : goal.unreachable-requires
unreachable-requires c = never _ _ c.requires c.loop-token-test.false c.loop-token.invariant (can_file c.loop-token.reader)
