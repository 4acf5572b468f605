use Rattle.std.proofs.Common.{◌≡◌, ◌≤◌, ◌-◌, ◌+◌, ◌∷◌, ◌++◌, length, map, ap, sym, ◌∙◌, arith}
use Rattle.std.specs.Prelude.{option_and_then}
use Rattle.mc_state.specs.Terms.{plain}
use Rattle.mc_cover.specs.Goals.{all_there}
use Rattle.mc_cover.specs.Marks.{named_with}
use Rattle.mc_cover.proofs.SearchLemmas.Pushed.{grown, held_count}
use Rattle.mc_cover.proofs.search.pushing.names_by.Goals as goal

pub overflow_sub-held : goal.overflow_sub-held
overflow_sub-held c =
    let old = c.in_ok-names.names.items in
    let new = c.push_fields.new.names.items in
    let k = c.is_told.ensures in
    let g = grown (all_there c.in-Some.fields.now) old new c.in_ok-push_fields.field-0 c.if-not-branch.false c.in_ok-push_fields.ensures in
    let n : length new ≡ length old + length g.0 = held_count old new g.0 g.2 in
    let l : c.len-front.result ≡ length old = c.len-front.ensures ∙ c.in_ok-names.names.ok.0 in
    let m : c.len.result ≡ length new = c.len.ensures ∙ c.push_fields.new.names.ok.0 in
    omega arith

pub returns : goal.returns
returns c = λ know defs t.
    let old = c.in_ok-names.names.items in
    let new = c.push_fields.new.names.items in
    let g = grown (all_there c.in-Some.fields.now) old new c.in_ok-push_fields.field-0 c.if-not-branch.false c.in_ok-push_fields.ensures in
    let n : length new ≡ length old + length g.0 = held_count old new g.0 g.2 in
    let l : c.len-front.result ≡ length old = c.len-front.ensures ∙ c.in_ok-names.names.ok.0 in
    let m : c.len.result ≡ length new = c.len.ensures ∙ c.push_fields.new.names.ok.0 in
    let front : new ≡ c.args.goal.now.at ∷ (c.args.goal.now.args ++ map plain g.0) = g.2 ∙ ap (λ x. x ++ map plain g.0) c.in_ok-names.ensures in
    let held : length g.0 ≡ c.len.result - c.len-front.result = omega arith in
    c.in_ok-made.ensures know t g.0 front held ∙ ap (option_and_then (named_with know c.args.goal.now c.args.def.now c.args.rule.now)) (sym g.1 ∙ c.in-Some.ensures know t)
