use Rattle.std.proofs.Common.{◌≡◌, ◌∙◌, ◌+◌, ◌≤◌, ap, arith, length, refl, sym, take}
use Rattle.std.proofs.lemmas.List.{take_all}
use Rattle.std.proofs.lemmas.Option.{slice_get_read}
use Rattle.std.specs.Prelude.{Some, slice_get}
use Rattle.mc_c_syntax.specs.Visible.Lasts.{last_place}
use Rattle.mc_c_syntax.specs.Visible.Stacks.{names_in}
use Rattle.mc_c_syntax.proofs.VisibleLemmas.Entries.{hidden_of, place_within, steps_back}
use Rattle.mc_c_syntax.proofs.VisibleLemmas.Lasts.{cut_within, none_within}
use Rattle.mc_c_syntax.proofs.visible.stack.NameStack.last_before.Goals as goal

pub loop-last-init : goal.loop-last-init
loop-last-init c =
    let names = names_in c.self.inside.entries.items in
    let k = c.args.end + length names in
    let all : length names ≤ k = omega arith in
    (k, omega arith, c.last-last.ensures ∙ ap (λ ns. last_place ns c.args.name.now) (sym c.self.view_is ∙ sym (take_all k names all)))

pub returns-then-place-end : goal.returns-then-place-end
returns-then-place-end c =
    let names = names_in c.self.inside.entries.items in
    let kept = c.loop-last.invariant in
    sym (cut_within names c.args.name.now c.args.end kept.0 c.in-Some.place kept.1 (sym kept.2 ∙ c.in-Some.is) c.if-place-end.true)
    ∙ ap (λ ns. last_place (take c.args.end ns) c.args.name.now) c.self.view_is

pub index-requires : goal.index-requires
index-requires c =
    let kept = c.loop-last.invariant in
    let within = place_within c.self.inside.entries.items c.args.name.now kept.0 c.in-Some.place (sym kept.2 ∙ c.in-Some.is) in
    omega (arith, within.1, c.self.inside.entries.ok.0)

pub loop-last-smaller : goal.loop-last-smaller
loop-last-smaller c =
    let entries = c.self.inside.entries.items in
    let kept = c.loop-last.invariant in
    let within = place_within entries c.args.name.now kept.0 c.in-Some.place (sym kept.2 ∙ c.in-Some.is) in
    let at : slice_get entries c.in-Some.place ≡ Some c.index.result.now = slice_get_read entries (length entries) c.in-Some.place c.index.result.now refl within.1 c.index.ensures in
    rw c.in-Some.is
    (steps_back (names_in entries) c.args.name.now c.in-Some.place c.index.result.now.hidden
    (hidden_of entries c.args.name.now kept.0 c.in-Some.place c.index.result.now c.self.invariant.hidden (sym kept.2 ∙ c.in-Some.is) at))

pub loop-last-preserved : goal.loop-last-preserved
loop-last-preserved c =
    let entries = c.self.inside.entries.items in
    let kept = c.loop-last.invariant in
    let within = place_within entries c.args.name.now kept.0 c.in-Some.place (sym kept.2 ∙ c.in-Some.is) in
    let at : slice_get entries c.in-Some.place ≡ Some c.index.result.now = slice_get_read entries (length entries) c.in-Some.place c.index.result.now refl within.1 c.index.ensures in
    (c.in-Some.place, c.if-place-end.false, hidden_of entries c.args.name.now kept.0 c.in-Some.place c.index.result.now c.self.invariant.hidden (sym kept.2 ∙ c.in-Some.is) at)

pub returns : goal.returns
returns c =
    let names = names_in c.self.inside.entries.items in
    let kept = c.loop-last.invariant in
    sym (none_within names c.args.name.now c.args.end kept.0 kept.1 (sym kept.2 ∙ c.in_default.is))
    ∙ ap (λ ns. last_place (take c.args.end ns) c.args.name.now) c.self.view_is
