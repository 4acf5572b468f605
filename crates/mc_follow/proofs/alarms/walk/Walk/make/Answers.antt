use Rattle.mc_follow.proofs.AlarmsLemmas.SideLines.{none_last, pushed_last}
use Rattle.mc_follow.proofs.alarms.walk.Walk.make.Goals as goal

pub returns-in_ok-push-in-Some-clause-pushed : goal.returns-in_ok-push-in-Some-clause-pushed
returns-in_ok-push-in-Some-clause-pushed c =
    pushed_last c.lay.new.self.proof c.last_edge.result c.in-Some.edge c.args.made.now.items c.push.new.self.items c.in-Some.is c.last_edge.ensures c.in_ok-push-in-Some.ensures.items

pub returns-in-None-clause-pushed : goal.returns-in-None-clause-pushed
returns-in-None-clause-pushed c = none_last c.lay.new.self.proof c.last_edge.result c.args.made.now.items c.args.made.now.items c.in-None.is c.last_edge.ensures
