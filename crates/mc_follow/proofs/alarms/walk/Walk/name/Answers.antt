use Rattle.std.proofs.Common.{ap, sym, subst}
use Rattle.mc_lines.specs.declared.cert.line.Line.{Line}
use Rattle.mc_follow.specs.Alarms.Walks.{IsSure, IsTurned, ending}
use Rattle.mc_follow.proofs.AlarmsLemmas.SideLines.{are_bounded, name_line, new_name, no_name, own_name}
use Rattle.mc_follow.proofs.alarms.walk.Walk.name.Goals as goal

pub returns-then-is_alone-clause-named : goal.returns-then-is_alone-clause-named
returns-then-is_alone-clause-named c =
    let flow = c.args.flow.now in
    let defs = c.args.defs.now in
    let old = c.args.self.now in
    own_name c.goals_are_made.ensures flow defs old.proof (are_bounded c.documents_are_followed.ensures flow defs old.lines.items old.proof old.text.items old.ended old.tracks c.requires.followed)
    c.args.kind c.args.term.now (c.is_alone.ensures c.if-is_alone.true)

pub lay-requires-clause-sure : goal.lay-requires-clause-sure
lay-requires-clause-sure c =
    let flow = c.args.flow.now in
    let defs = c.args.defs.now in
    let old = c.args.self.now in
    subst (λ (l : Line). IsSure flow defs l old.proof) (sym c.naming.ensures)
    (name_line c.goals_are_made.ensures flow defs old.proof (are_bounded c.documents_are_followed.ensures flow defs old.lines.items old.proof old.text.items old.ended old.tracks c.requires.followed)
    c.args.kind c.args.term.now c.requires.here)

pub returns-then-branch-clause-named : goal.returns-then-branch-clause-named
returns-then-branch-clause-named c =
    let flow = c.args.flow.now in
    let defs = c.args.defs.now in
    let old = c.args.self.now in
    new_name c.goals_are_made.ensures flow defs old.proof (are_bounded c.documents_are_followed.ensures flow defs old.lines.items old.proof old.text.items old.ended old.tracks c.requires.followed)
    c.args.kind c.args.term.now c.lay.new.self.proof (subst (λ (l : Line). IsTurned flow defs l old.proof c.lay.new.self.proof) c.naming.ensures c.in_ok-lay.ensures.turned) c.in_ok-lay.field-0 c.in_ok-lay.ensures.sound
    c.if-branch.true c.next_node-node.result c.next_node-node.ensures c.requires.here

pub returns-else-branch-clause-named : goal.returns-else-branch-clause-named
returns-else-branch-clause-named c =
    let flow = c.args.flow.now in
    let defs = c.args.defs.now in
    let old = c.args.self.now in
    no_name c.goals_are_made.ensures flow defs old.proof (are_bounded c.documents_are_followed.ensures flow defs old.lines.items old.proof old.text.items old.ended old.tracks c.requires.followed)
    c.args.kind c.args.term.now c.lay.new.self.proof (subst (λ (l : Line). IsTurned flow defs l old.proof c.lay.new.self.proof) c.naming.ensures c.in_ok-lay.ensures.turned) c.in_ok-lay.field-0 c.in_ok-lay.ensures.sound
    c.if-branch.false

pub lay-requires-clause-lasts : goal.lay-requires-clause-lasts
lay-requires-clause-lasts c = ap ending c.naming.ensures
