use Rattle.std.proofs.Common.{length, reverse}
use Rattle.mc_follow.specs.Alarms.Walks.{IsWalk}
use Rattle.mc_follow.proofs.AlarmsLemmas.SideLines.{SoFar}
use Rattle.mc_follow.proofs.alarms.walk.Walk.meet_all.Given as goal

abbrev pub invariant-loop-met : goal.invariant-loop-met
invariant-loop-met l = record {
  walk : IsWalk l.flow l.defs l.self;
  far : SoFar l.flow l.defs l.fn.self.proof (reverse l.fn.mets.items) (reverse l.fn.made.items) l.self.proof (reverse l.mets.items) (reverse l.made.items);
}

abbrev pub decreases-loop-met : goal.decreases-loop-met
decreases-loop-met l = length l.mets.items
