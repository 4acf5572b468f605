use Rattle.std.proofs.Common.{List, reverse, ap, sym, subst}
use Rattle.mc_base.specs.declared.ids.EdgeId.{EdgeId}
use Rattle.mc_follow.specs.Alarms.Sides.{AreMarksMet, IsAtMarks}
use Rattle.mc_follow.proofs.AlarmsLemmas.SideLines.{false_there, goal_met, goal_there_now, goal_wrong, known_wrong, marks_there, none_false}
use Rattle.mc_follow.proofs.alarms.walk.Walk.met_by.Goals as goal

pub returns-then-is_false-clause-met : goal.returns-then-is_false-clause-met
returns-then-is_false-clause-met c = false_there c.args.defs.now c.args.self.now.proof c.is_false.result c.is_false.ensures c.if-is_false.true

pub met_now-requires-clause-sound : goal.met_now-requires-clause-sound
met_now-requires-clause-sound c = none_false c.args.self.now.proof c.is_false.result c.is_false.ensures c.if-is_false.false

pub write_known-requires-clause-here : goal.write_known-requires-clause-here
write_known-requires-clause-here c =
    let flow = c.args.flow.now in
    let defs = c.args.defs.now in
    let old = c.args.self.now in
    let sound = none_false old.proof c.is_false.result c.is_false.ensures c.if-is_false.false in
    goal_there_now c.documents_are_followed.ensures flow defs old.lines.items old.proof old.text.items old.ended old.tracks c.requires.followed c.requires.here sound

pub returns-then-not-branch-clause-met : goal.returns-then-not-branch-clause-met
returns-then-not-branch-clause-met c =
    let flow = c.args.flow.now in
    let defs = c.args.defs.now in
    let old = c.args.self.now in
    let sound = none_false old.proof c.is_false.result c.is_false.ensures c.if-is_false.false in
    known_wrong c.documents_are_followed.ensures flow defs old.lines.items old.proof old.text.items old.ended old.tracks c.requires.followed c.requires.here sound c.write_known.new.self.proof
    (reverse c.in_ok-mets.mets.items) c.in_ok-mets.ensures c.in_ok-write_known.field-0 c.if-not-branch.true c.in_ok-write_known.ensures.written

pub meet_all-requires-clause-here : goal.meet_all-requires-clause-here
meet_all-requires-clause-here c =
    let flow = c.args.flow.now in
    let defs = c.args.defs.now in
    let old = c.args.self.now in
    let sound = none_false old.proof c.is_false.result c.is_false.ensures c.if-is_false.false in
    subst (λ (ids : List EdgeId). IsAtMarks flow defs c.write_known.new.self.proof (reverse c.in_ok-mets.mets.items) ids) (sym (ap reverse c.new-made.ensures.items))
    (marks_there c.documents_are_followed.ensures flow defs old.lines.items old.proof old.text.items old.ended old.tracks c.requires.followed c.requires.here sound c.write_known.new.self.proof
    (reverse c.in_ok-mets.mets.items) c.in_ok-mets.ensures c.in_ok-write_known.field-0 c.if-not-branch.false c.in_ok-write_known.ensures.written)

pub returns-then-not-branch-2-clause-met : goal.returns-then-not-branch-2-clause-met
returns-then-not-branch-2-clause-met c =
    let flow = c.args.flow.now in
    let defs = c.args.defs.now in
    let old = c.args.self.now in
    let sound = none_false old.proof c.is_false.result c.is_false.ensures c.if-is_false.false in
    let met = subst (λ (ids : List EdgeId). AreMarksMet flow defs (reverse c.in_ok-mets.mets.items) c.write_known.new.self.proof ids c.meet_all.new.self.proof (reverse c.meet_all.new.made.items)
    c.in_ok-meet_all.field-0) (ap reverse c.new-made.ensures.items) c.in_ok-meet_all.ensures.met in
    goal_wrong c.documents_are_followed.ensures flow defs old.lines.items old.proof old.text.items old.ended old.tracks c.requires.followed c.requires.here sound c.write_known.new.self.proof
    (reverse c.in_ok-mets.mets.items) c.in_ok-mets.ensures c.in_ok-write_known.field-0 c.if-not-branch.false c.in_ok-write_known.ensures.written c.meet_all.new.self.proof
    (reverse c.meet_all.new.made.items) c.in_ok-meet_all.field-0 met c.if-not-branch-2.true

pub returns-clause-met : goal.returns-clause-met
returns-clause-met c =
    let flow = c.args.flow.now in
    let defs = c.args.defs.now in
    let old = c.args.self.now in
    let sound = none_false old.proof c.is_false.result c.is_false.ensures c.if-is_false.false in
    let met = subst (λ (ids : List EdgeId). AreMarksMet flow defs (reverse c.in_ok-mets.mets.items) c.write_known.new.self.proof ids c.meet_all.new.self.proof (reverse c.meet_all.new.made.items)
    c.in_ok-meet_all.field-0) (ap reverse c.new-made.ensures.items) c.in_ok-meet_all.ensures.met in
    goal_met c.documents_are_followed.ensures flow defs old.lines.items old.proof old.text.items old.ended old.tracks c.requires.followed c.requires.here sound c.write_known.new.self.proof
    (reverse c.in_ok-mets.mets.items) c.in_ok-mets.ensures c.in_ok-write_known.field-0 c.if-not-branch.false c.in_ok-write_known.ensures.written c.meet_all.new.self.proof
    (reverse c.meet_all.new.made.items) c.in_ok-meet_all.field-0 met c.goals_are_made.ensures c.if-not-branch-2.false c.take_edge.result (reverse c.take_edge.new.made.items) c.take_edge.ensures
