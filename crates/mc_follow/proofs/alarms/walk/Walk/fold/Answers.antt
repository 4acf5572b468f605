use Rattle.std.proofs.Common.{◌≡◌, ◌++◌, ◌∙◌, List, Some, length, reverse, ap, arith, refl, subst, sym}
use Rattle.std.proofs.lemmas.List.{length-reverse}
use Rattle.mc_base.specs.declared.ids.EdgeId.{EdgeId}
use Rattle.mc_base.specs.declared.ids.NodeId.{NodeId}
use Rattle.mc_follow.specs.Alarms.Sides.{HaveNames}
use Rattle.mc_follow.proofs.AlarmsLemmas.SideLines.{are_bounded, calls_line, fold_line, folded, names_line, not_folded}
use Rattle.mc_follow.proofs.alarms.walk.Walk.fold.Goals as goal

pub names-requires-clause-here : goal.names-requires-clause-here
names-requires-clause-here c =
    let flow = c.args.flow.now in
    let defs = c.args.defs.now in
    let old = c.args.self.now in
    let met = c.args.met.now in
    let ids = reverse c.args.made.now.items in
    let r = c.rule_of.ensures.there c.in-Some.rule c.in-Some.is in
    names_line c.goals_are_made.ensures flow defs old.proof met ids c.args.place c.args.block c.requires.mark r.0 c.in-Some.rule.now r.1 r.2 c.as_slice-kinds.result.now c.as_slice.result.now
    c.as_slice-kinds.ensures c.as_slice.ensures.value c.requires.here

pub returns-in-None-2-clause-met : goal.returns-in-None-2-clause-met
returns-in-None-2-clause-met c =
    let flow = c.args.flow.now in
    let defs = c.args.defs.now in
    let old = c.args.self.now in
    let met = c.args.met.now in
    let ids = reverse c.args.made.now.items in
    let r = c.rule_of.ensures.there c.in-Some.rule c.in-Some.is in
    let none = rw c.in-None-2.is at c.in_ok-names.ensures.named in
    not_folded c.goals_are_made.ensures flow defs old.proof met ids c.args.place c.args.block c.requires.mark r.0 c.in-Some.rule.now r.1 r.2 c.as_slice-kinds.result.now c.as_slice.result.now
    c.as_slice-kinds.ensures c.as_slice.ensures.value c.names.new.self.proof ids none

pub take_edges-requires : goal.take_edges-requires
take_edges-requires c =
    let flow = c.args.flow.now in
    let defs = c.args.defs.now in
    let old = c.args.self.now in
    let met = c.args.met.now in
    let ids = reverse c.args.made.now.items in
    let r = c.rule_of.ensures.there c.in-Some.rule c.in-Some.is in
    let enough = calls_line c.goals_are_made.ensures flow defs old.proof met ids c.args.place c.args.block c.requires.mark r.0 c.in-Some.rule.now r.1 r.2 c.requires.here in
    let same : length ids ≡ length c.args.made.now.items = length-reverse c.args.made.now.items in
    let calls = c.len.ensures in
    omega (arith, enough, same, calls)

pub make-requires-clause-sure : goal.make-requires-clause-sure
make-requires-clause-sure c =
    let flow = c.args.flow.now in
    let defs = c.args.defs.now in
    let old = c.args.self.now in
    let met = c.args.met.now in
    let ids = reverse c.args.made.now.items in
    let r = c.rule_of.ensures.there c.in-Some.rule c.in-Some.is in
    let mid = c.names.new.self in
    let bounded = are_bounded c.documents_are_followed.ensures flow defs mid.lines.items mid.proof mid.text.items mid.ended mid.tracks c.in_ok-names.ensures.follows in
    let found = rw c.in-Some-2.is at c.in_ok-names.ensures.named in
    let named = subst (λ (ns : List NodeId). HaveNames old.proof mid.proof c.as_slice-kinds.result.now c.as_slice.result.now (Some ns)) (sym c.of.ensures) found in
    let count = ap length c.of-2.ensures ∙ (c.in_ok-calls.ensures.count ∙ c.len.ensures) in
    let are = c.in_ok-calls.ensures.taken ∙ ap (λ (xs : List EdgeId). xs ++ reverse c.take_edges.new.made.items) (sym c.of-2.ensures) in
    fold_line c.goals_are_made.ensures flow defs old.proof met ids c.args.place c.args.block c.requires.mark r.0 c.in-Some.rule.now r.1 r.2 c.as_slice-kinds.result.now c.as_slice.result.now
    c.as_slice-kinds.ensures c.as_slice.ensures.value mid.proof bounded c.of.result named c.of-2.result (reverse c.take_edges.new.made.items) count are c.requires.here

pub returns-clause-met : goal.returns-clause-met
returns-clause-met c =
    let flow = c.args.flow.now in
    let defs = c.args.defs.now in
    let old = c.args.self.now in
    let met = c.args.met.now in
    let ids = reverse c.args.made.now.items in
    let r = c.rule_of.ensures.there c.in-Some.rule c.in-Some.is in
    let mid = c.names.new.self in
    let bounded = are_bounded c.documents_are_followed.ensures flow defs mid.lines.items mid.proof mid.text.items mid.ended mid.tracks c.in_ok-names.ensures.follows in
    let found = rw c.in-Some-2.is at c.in_ok-names.ensures.named in
    let named = subst (λ (ns : List NodeId). HaveNames old.proof mid.proof c.as_slice-kinds.result.now c.as_slice.result.now (Some ns)) (sym c.of.ensures) found in
    let count = ap length c.of-2.ensures ∙ (c.in_ok-calls.ensures.count ∙ c.len.ensures) in
    let are = c.in_ok-calls.ensures.taken ∙ ap (λ (xs : List EdgeId). xs ++ reverse c.take_edges.new.made.items) (sym c.of-2.ensures) in
    folded c.goals_are_made.ensures flow defs old.proof met ids c.args.place c.args.block c.requires.mark r.0 c.in-Some.rule.now r.1 r.2 c.as_slice-kinds.result.now c.as_slice.result.now
    c.as_slice-kinds.ensures c.as_slice.ensures.value mid.proof bounded c.of.result named c.of-2.result (reverse c.take_edges.new.made.items) count are c.make.new.self.proof
    c.in_ok-folded.ensures.turned c.in_ok-folded.folded c.in_ok-folded.ensures.sound c.take_edges.new.made.items c.make.new.made.items refl c.in_ok-folded.ensures.pushed
