use Rattle.std.proofs.Common.{refl, reverse}
use Rattle.mc_follow.proofs.AlarmsLemmas.SideLines.{are_bounded, close_line, closes, no_rest}
use Rattle.mc_follow.proofs.alarms.walk.Walk.close.Goals as goal

pub make-requires-clause-sure : goal.make-requires-clause-sure
make-requires-clause-sure c =
    let flow = c.args.flow.now in
    let defs = c.args.defs.now in
    let old = c.args.self.now in
    close_line c.goals_are_made.ensures flow defs old.proof (are_bounded c.documents_are_followed.ensures flow defs old.lines.items old.proof old.text.items old.ended old.tracks c.requires.followed)
    c.args.met.now (reverse c.args.made.now.items) c.args.seg c.requires.mark c.in-Some.rest (reverse c.take_edge.new.made.items) c.in-Some.ensures c.requires.here

pub unreachable-requires : goal.unreachable-requires
unreachable-requires c =
    let flow = c.args.flow.now in
    let defs = c.args.defs.now in
    let old = c.args.self.now in
    no_rest c.goals_are_made.ensures flow defs old.proof (are_bounded c.documents_are_followed.ensures flow defs old.lines.items old.proof old.text.items old.ended old.tracks c.requires.followed)
    c.args.met.now (reverse c.args.made.now.items) c.args.seg c.requires.mark c.requires.here c.in-None.ensures

pub returns-clause-met : goal.returns-clause-met
returns-clause-met c =
    let flow = c.args.flow.now in
    let defs = c.args.defs.now in
    let old = c.args.self.now in
    closes c.goals_are_made.ensures flow defs old.proof (are_bounded c.documents_are_followed.ensures flow defs old.lines.items old.proof old.text.items old.ended old.tracks c.requires.followed)
    c.args.met.now (reverse c.args.made.now.items) c.args.seg c.requires.mark c.in-Some.rest (reverse c.take_edge.new.made.items) c.in-Some.ensures c.make.new.self.proof
    c.in_ok-closed-in-Some.ensures.turned c.in_ok-closed-in-Some.closed c.in_ok-closed-in-Some.ensures.sound c.take_edge.new.made.items c.make.new.made.items refl c.in_ok-closed-in-Some.ensures.pushed
