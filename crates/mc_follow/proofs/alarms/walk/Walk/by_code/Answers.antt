use Rattle.std.proofs.Common.{◌≡◌, Some, None, sym, subst, ◌∙◌}
use Rattle.mc_document.specs.Proof.Positions.{Position}
use Rattle.mc_follow.specs.Alarms.Walks.{IsCodeLine, IsSure, IsTurned}
use Rattle.mc_follow.proofs.AlarmsLemmas.Covered.{first_plain, gone_covered, turned_covered}
use Rattle.mc_follow.proofs.AlarmsLemmas.Followed.{code_is_right, same_sure}
use Rattle.mc_follow.proofs.alarms.walk.Walk.by_code.Goals as goal

pub turn-requires-clause-sure : goal.turn-requires-clause-sure
turn-requires-clause-sure c =
    let flow = c.args.flow.now in
    let defs = c.args.defs.now in
    let old = c.args.self.now in
    let met = c.in_ok-stick.ensures.met c.if-branch.false in
    let line : IsCodeLine flow defs old.proof c.next_line.result = subst (λ (p : Position). IsCodeLine flow defs p c.next_line.result) met.0 c.next_line.ensures in
    let sure = code_is_right c.documents_are_followed.ensures flow defs old.lines.items old.proof old.text.items old.ended old.tracks c.requires.followed
    c.branches_are_followed.ensures c.next_line.result c.requires.here met.1 line in
    subst (λ (p : Position). IsSure flow defs c.in-Some.line p) (sym met.0)
    (same_sure flow defs c.next_line.result sure.0 c.in-Some.line old.proof sure.1 c.in-Some.is sure.2)

pub unreachable-requires : goal.unreachable-requires
unreachable-requires c =
    let flow = c.args.flow.now in
    let defs = c.args.defs.now in
    let old = c.args.self.now in
    let met = c.in_ok-stick.ensures.met c.if-branch.false in
    let line : IsCodeLine flow defs old.proof c.next_line.result = subst (λ (p : Position). IsCodeLine flow defs p c.next_line.result) met.0 c.next_line.ensures in
    let sure = code_is_right c.documents_are_followed.ensures flow defs old.lines.items old.proof old.text.items old.ended old.tracks c.requires.followed
    c.branches_are_followed.ensures c.next_line.result c.requires.here met.1 line in
    let two : Some sure.0 ≡ None = sym sure.1 ∙ c.in-None.is in cc two

pub returns-clause-covered : goal.returns-clause-covered
returns-clause-covered c =
    let flow = c.args.flow.now in
    let defs = c.args.defs.now in
    let old = c.args.self.now in
    let laws = c.documents_are_followed.ensures in
    let covers = c.assertions_are_covered.ensures in
    let here = c.requires.here in
    let met = c.in_ok-stick.ensures.met c.if-branch.false in
    let new = c.turn.new.self.proof in
    let line = c.in-Some.line in
    let turned : IsTurned flow defs line old.proof new = subst (λ (p : Position). IsTurned flow defs line p new) met.0 c.in_ok-turn-in-Some.ensures.turned in
    turned_covered laws flow defs old.lines.items old.proof old.text.items old.ended old.tracks c.requires.followed covers line new turned
    (first_plain laws flow defs old.lines.items old.proof old.text.items old.ended old.tracks c.requires.followed covers line new turned here.first here.others here.branches_are here.plain)
    (λ e. met.1) c.requires.covered

pub returns-then-branch-clause-covered : goal.returns-then-branch-clause-covered
returns-then-branch-clause-covered c =
    let here = c.requires.here in
    gone_covered c.args.defs.now c.args.self.now.proof c.stick.new.self.proof here.first here.others here.branches_are (c.in_ok-stick.ensures.gone c.if-branch.true) c.requires.covered
