use Rattle.mc_follow.proofs.AlarmsLemmas.SideLines.{forget_line, next_there, not_written, written, zero_sure}
use Rattle.mc_follow.proofs.alarms.walk.Walk.write_known.Goals as goal

pub unreachable-requires : goal.unreachable-requires
unreachable-requires c =
    let at = c.requires.here in next_there c.args.self.now.proof c.next_node.result at.w.goal at.w.before at.others c.in-None.is c.next_node.ensures at.begun.side

pub lay-requires-clause-sure : goal.lay-requires-clause-sure
lay-requires-clause-sure c =
    let at = c.requires.here in zero_sure c.goals_are_made.ensures c.args.flow.now c.args.defs.now at.w at.others c.args.self.now.proof at.begun

pub returns-then-not-branch-clause-written : goal.returns-then-not-branch-clause-written
returns-then-not-branch-clause-written c =
    not_written c.goals_are_made.ensures c.args.flow.now c.args.defs.now c.args.self.now.proof c.lay.new.self.proof c.in_ok-lay.ensures.turned c.in_ok-lay.field-0 c.in_ok-lay.ensures.sound
    c.next_node.result c.in-Some.node c.in-Some.is c.next_node.ensures c.if-not-branch.true

pub lay-requires-2-clause-sure : goal.lay-requires-2-clause-sure
lay-requires-2-clause-sure c =
    forget_line c.goals_are_made.ensures c.args.flow.now c.args.defs.now c.args.self.now.proof c.lay.new.self.proof c.in_ok-lay.ensures.turned c.in_ok-lay.field-0 c.in_ok-lay.ensures.sound
    c.next_node.result c.in-Some.node c.in-Some.is c.next_node.ensures c.if-not-branch.false c.requires.here

pub returns-clause-written : goal.returns-clause-written
returns-clause-written c =
    written c.goals_are_made.ensures c.args.flow.now c.args.defs.now c.args.self.now.proof c.lay.new.self.proof c.in_ok-lay.ensures.turned c.in_ok-lay.field-0 c.in_ok-lay.ensures.sound
    c.next_node.result c.in-Some.node c.in-Some.is c.next_node.ensures c.if-not-branch.false c.lay-2.new.self.proof c.in_ok-sound.ensures.turned c.in_ok-sound.sound c.in_ok-sound.ensures.sound
