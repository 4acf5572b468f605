use Rattle.mc_follow.proofs.AlarmsLemmas.Covered.{first_is_no_assertion, first_plain, turned_covered}
use Rattle.mc_follow.proofs.AlarmsLemmas.Followed.{first_is_right}
use Rattle.mc_follow.proofs.alarms.walk.Walk.by_first.Goals as goal

pub turn-requires-clause-sure : goal.turn-requires-clause-sure
turn-requires-clause-sure c =
    let old = c.args.self.now in
    first_is_right c.documents_are_followed.ensures c.args.flow.now c.args.defs.now old.lines.items old.proof old.text.items old.ended old.tracks c.requires.followed
    c.branches_are_followed.ensures c.args.line c.requires.here

pub returns-clause-covered : goal.returns-clause-covered
returns-clause-covered c =
    let flow = c.args.flow.now in
    let defs = c.args.defs.now in
    let old = c.args.self.now in
    let laws = c.documents_are_followed.ensures in
    let covers = c.assertions_are_covered.ensures in
    let here = c.requires.here in
    let turned = c.in_ok-turn.ensures.turned in
    turned_covered laws flow defs old.lines.items old.proof old.text.items old.ended old.tracks c.requires.followed covers c.args.line c.turn.new.self.proof turned
    (first_plain laws flow defs old.lines.items old.proof old.text.items old.ended old.tracks c.requires.followed covers c.args.line c.turn.new.self.proof turned
    here.first here.others here.branches_are here.plain)
    (first_is_no_assertion laws flow defs old.lines.items old.proof old.text.items old.ended old.tracks c.requires.followed covers c.args.line here) c.requires.covered
