use Rattle.std.proofs.Common.{◌≡◌, length}
use Rattle.mc_follow.specs.Alarms.Walks.{IsWalk}
use Rattle.mc_follow.proofs.AlarmsLemmas.SideLines.{NamesSoFar}
use Rattle.mc_follow.proofs.alarms.walk.Walk.names.Given as goal

abbrev pub invariant-loop-i : goal.invariant-loop-i
invariant-loop-i l = record {
  walk : IsWalk l.flow l.defs l.self;
  lengths : length l.kinds ≡ length l.terms;
  named : NamesSoFar l.fn.self.proof l.self.proof l.kinds l.terms l.i l.nodes.items;
}
