use Rattle.mc_c_parse.proofs.Viable.{can_unit}
use Rattle.mc_c_parse.proofs.PrefixLemmas.{no_end_within}
use Rattle.mc_c_parse.proofs.WholeLemmas.{behind_none, only_unit, stops_at, fault_of, never}
use Rattle.mc_c_parse.proofs.parser.parse.Goals as goal

pub loop-index-init : goal.loop-index-init
loop-index-init c = record { known = c.new-reader.ensures.known; behind = behind_none _ _ c.new-reader.ensures.none c.new-reader.ensures.starts }

pub returns-in-Done-clause-read : goal.returns-in-Done-clause-read
returns-in-Done-clause-read c = only_unit _ _ c.index-tokens-index.result _ c.requires c.loop-index-test.true c.index-tokens-index.is c.loop-index.invariant.behind (rw c.in-Done.is at c.in_ok-step.ensures)

pub fault_at-requires : goal.fault_at-requires
fault_at-requires c = no_end_within _ _ c.index-tokens-index.result c.requires c.loop-index-test.true c.index-tokens-index.is

pub returns-in-Stuck-clause-refused : goal.returns-in-Stuck-clause-refused
returns-in-Stuck-clause-refused c = fault_of _ _ c.index-tokens-index.result _ (stops_at _ _ c.index-tokens-index.result c.loop-index-test.true c.index-tokens-index.is c.loop-index.invariant.behind (can_unit c.bodies_can_end.ensures c.loop-index.reader) (rw c.in-Stuck.is at c.in_ok-step.ensures)) c.fault_at.ensures

pub unreachable-requires : goal.unreachable-requires
unreachable-requires c = never _ _ c.requires c.loop-index-test.false c.loop-index.invariant.behind (can_unit c.bodies_can_end.ensures c.loop-index.reader)
