use Rattle.std.proofs.Common.{reverse}
use Rattle.mc_follow.proofs.AlarmsLemmas.SideLines.{far_mark, far_wrong}
use Rattle.mc_follow.proofs.alarms.walk.Walk.meet_all.Goals as goal

pub meet-requires-clause-here : goal.meet-requires-clause-here
meet-requires-clause-here c =
    far_mark c.args.flow.now c.args.defs.now c.args.self.now.proof (reverse c.args.mets.items) (reverse c.args.made.now.items) c.loop-met.self.proof (reverse c.loop-met.mets.items)
    (reverse c.loop-met.made.items) c.loop-met.invariant.far c.requires.here c.in-Some.met (reverse c.take_met.new.mets.items) c.in-Some.ensures

pub returns-then-not-branch-clause-met : goal.returns-then-not-branch-clause-met
returns-then-not-branch-clause-met c =
    far_wrong c.args.flow.now c.args.defs.now c.args.self.now.proof (reverse c.args.mets.items) (reverse c.args.made.now.items) c.loop-met.self.proof (reverse c.loop-met.mets.items)
    (reverse c.loop-met.made.items) c.loop-met.invariant.far c.in-Some.met (reverse c.take_met.new.mets.items) c.in-Some.ensures c.meet.new.self.proof (reverse c.meet.new.made.items)
    c.in_ok-meet.field-0 c.if-not-branch.true c.in_ok-meet.ensures.met
