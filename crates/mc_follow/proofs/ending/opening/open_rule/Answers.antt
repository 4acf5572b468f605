use Rattle.std.proofs.Common.{◌≡◌, ◌++◌, ◌∙◌, None, Some, map, option_map, reverse, ap, sym, arith}
use Rattle.mc_cover.specs.Marks.{goal_of, names_at}
use Rattle.mc_follow.specs.Ending.Making.{setting_in}
use Rattle.mc_follow.proofs.EndingLemmas.Leading.{contents_are_there, rule_opened}
use Rattle.mc_follow.proofs.ending.opening.open_rule.Goals as goal

pub returns : goal.returns
returns c = λ know f.
    let r = c.rule_of.ensures.there c.in-Some.rule c.in-Some.is in
    let rule = c.in-Some.rule.now in
    let h = c.args.goal.now in
    let pushed = c.in_ok-push_calls.ensures in
    let value = c.deref.ensures.value in
    let slice = c.as_slice.ensures in
    let e : reverse c.push_calls.new.left.items ≡ map (goal_of c.in-Some-2.names.items None) rule.calls ++ reverse c.args.left.now.items = grind (arith, pushed, value, slice) in
    rule_opened (setting_in know c.args.defs.now c.args.state.now) h c.args.place c.args.block rule r.0 c.in-Some-2.names.items _ _ f r.1 r.2
    (λ contents is.
    let two : Some c.in-Some-2.names.items ≡ Some (names_at h rule contents) = sym (ap (option_map (λ v. v.items)) c.in-Some-2.is) ∙ c.in_ok-names.ensures know contents is in
    cc two)
    e

pub unreachable-requires-in-None-2 : goal.unreachable-requires-in-None-2
unreachable-requires-in-None-2 c =
    let r = c.rule_of.ensures.there c.in-Some.rule c.in-Some.is in
    let held = contents_are_there (setting_in c.requires.0 c.args.defs.now c.args.state.now) c.args.goal.now c.args.place c.args.block r.0 c.in-Some.rule.now c.requires.1 r.1 r.2 in
    let some = c.in_ok-names.ensures c.requires.0 held.0 held.1 in
    let two = rw c.in-None-2.is at some in
    cc two
