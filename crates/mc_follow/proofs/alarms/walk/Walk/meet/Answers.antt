use Rattle.std.proofs.Common.{reverse}
use Rattle.mc_follow.proofs.AlarmsLemmas.SideLines.{ind_there, no_call, no_end}
use Rattle.mc_follow.proofs.alarms.walk.Walk.meet.Goals as goal

pub unreachable-requires : goal.unreachable-requires
unreachable-requires c =
    no_end c.goals_are_made.ensures c.args.flow.now c.args.defs.now c.args.self.now.proof c.args.met.now (reverse c.args.made.now.items) c.requires.here c.in-AtEnd.is

pub unreachable-requires-in-ByCall : goal.unreachable-requires-in-ByCall
unreachable-requires-in-ByCall c =
    no_call c.goals_are_made.ensures c.args.flow.now c.args.defs.now c.args.self.now.proof c.args.met.now (reverse c.args.made.now.items) c.in-ByCall.place c.in-ByCall.block c.in-ByCall.call
    c.requires.here c.in-ByCall.is

pub returns-in_ok-push-in-ByInd-clause-met : goal.returns-in_ok-push-in-ByInd-clause-met
returns-in_ok-push-in-ByInd-clause-met c =
    ind_there c.goals_are_made.ensures c.args.flow.now c.args.defs.now c.args.self.now.proof c.args.met.now c.args.made.now.items c.push.new.self.items c.in-ByInd.edge c.in-ByInd.is
    c.in_ok-push-in-ByInd.ensures.items
