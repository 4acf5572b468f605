use Rattle.mc_follow.proofs.alarms.walk.Walk.turn.Goals as goal

pub unreachable-requires : goal.unreachable-requires
unreachable-requires c = c.requires.sure.there ((c.in_ok-apply.ensures.refused c.if-branch.false).1 c.requires.sure.goes)
