use Rattle.std.proofs.Common.{◌≡◌, ◌≤◌, ◌-◌, ℕ, suc, List, Some, None, length, replicate, refl, sym, ap, ◌∙◌, arith}
use Rattle.std.specs.Prelude.{slice_get}
use Rattle.std.proofs.lemmas.Option.{slice_get_read}
use Rattle.mc_flow.specs.declared.defs.rules.DefAtom.{DefAtom}
use Rattle.mc_state.specs.Terms.{zero_term}
use Rattle.mc_state.specs.Guess.{Partial, begun, by_passes, parameters_of}
use Rattle.mc_cover.specs.Guessed.{BlockFor, by_stop, by_summary, first_block, first_empty, guess_at}
use Rattle.mc_cover.specs.Search.Setting.{free_edges}
use Rattle.mc_find_view.proofs.GuessLemmas.Chosen.{rule_end, at_found, at_empty, at_zero}
use Rattle.mc_find_view.proofs.guess.guesses.+guess.Goals as goal

pub given_by_rule-returns : goal.given_by_rule-returns
given_by_rule-returns t c = λ know told.
    let past : length c.args.rule.now.calls ≤ c.loop-call.call-index = rw c.as_slice-call-items.ensures at c.loop-call-test.false in
    rule_end (guess_at know c.args.defs.now c.args.stop.now c.args.left) c.args.pred (free_edges c.args.state.now c.args.used.now) c.args.rule.now.calls c.loop-call.call-index
    (begun c.args.rule.now (length c.args.def.now.params) c.args.at c.args.contents.now) c.loop-call.names.items c.settle.new.names.items c.args.rule.now.atoms (length c.args.def.now.params) c.in_ok-terms.terms.items
    past (c.loop-call.invariant know told)
    (c.settle.ensures ∙ ap (λ (z : List DefAtom). by_passes (length c.loop-call.names.items) c.loop-call.names.items z) c.as_slice-2.ensures)
    (c.in_ok-terms.ensures
    ∙ (ap (λ (z : ℕ). parameters_of c.as_slice-3.result.now 1 z) c.len-2.ensures
    ∙ ap (λ (z : Partial). parameters_of z 1 (length c.args.def.now.params)) c.as_slice-3.ensures.value))

pub guess_at-returns-in-Some-4 : goal.guess_at-returns-in-Some-4
guess_at-returns-in-Some-4 t c = λ know told.
    let def = c.in-Some.def.now in
    let es = free_edges c.args.state.now c.args.used.now in
    let less : c.args.left ≡ suc (c.args.left - 1) = omega (arith, c.if-left-eq0.false) in
    let defined : slice_get c.args.defs.now c.args.pred.0 ≡ Some def = slice_get_read c.args.defs.now (length c.args.defs.now) c.args.pred.0 def refl c.in-Some.ensures.lookup.3.0 c.in-Some.ensures.lookup.1 in
    let no_stop : by_stop know c.args.at c.args.stop.now ≡ None = sym (rw c.in_default-2.is at c.in_ok-terms.ensures know told) in
    let no_summary : by_summary know c.args.pred c.args.at es ≡ None = sym (rw c.in_default-3.is at c.in_ok-terms-2.ensures know told) in
    let b : BlockFor = record { rule = c.in-Some-4.found.rule.now; id = c.in-Some-4.found.id; contents = c.in-Some-4.found.contents.items } in
    let found : Some b ≡ first_block know c.args.at es c.as_slice-rules.result.now = rw c.in-Some-4.is at c.in_ok-found.ensures know told in
    at_found know c.args.defs.now c.args.stop.now c.args.left (c.args.left - 1) c.args.pred c.args.at c.args.state.now c.args.used.now def c.as_slice-rules.result.now c.in_ok-terms-3.terms.items
    less defined no_stop no_summary c.as_slice-rules.ensures b c.as_slice-contents.result.now c.deref.result.now found c.as_slice-contents.ensures.value (c.deref.ensures.value ∙ c.in_ok-taken.ensures) (c.in_ok-terms-3.ensures know told)

pub guess_at-returns-in_ok-terms-in-Some-first_empty : goal.guess_at-returns-in_ok-terms-in-Some-first_empty
guess_at-returns-in_ok-terms-in-Some-first_empty t c = λ know told.
    let def = c.in-Some.def.now in
    let es = free_edges c.args.state.now c.args.used.now in
    let less : c.args.left ≡ suc (c.args.left - 1) = omega (arith, c.if-left-eq0.false) in
    let defined : slice_get c.args.defs.now c.args.pred.0 ≡ Some def = slice_get_read c.args.defs.now (length c.args.defs.now) c.args.pred.0 def refl c.in-Some.ensures.lookup.3.0 c.in-Some.ensures.lookup.1 in
    let no_stop : by_stop know c.args.at c.args.stop.now ≡ None = sym (rw c.in_default-2.is at c.in_ok-terms.ensures know told) in
    let no_summary : by_summary know c.args.pred c.args.at es ≡ None = sym (rw c.in_default-3.is at c.in_ok-terms-2.ensures know told) in
    let none : None ≡ first_block know c.args.at es c.as_slice-rules.result.now = rw c.in_default-4.is at c.in_ok-found.ensures know told in
    let found : Some c.in-Some-first_empty.rule.now ≡ first_empty c.as_slice-rules.result.now = c.in-Some-first_empty.ensures in
    at_empty know c.args.defs.now c.args.stop.now c.args.left (c.args.left - 1) c.args.pred c.args.at c.args.state.now c.args.used.now def c.as_slice-rules.result.now c.in_ok-terms-in-Some-first_empty.terms.items
    less defined no_stop no_summary c.as_slice-rules.ensures c.in-Some-first_empty.rule.now none found (c.in_ok-terms-in-Some-first_empty.ensures know told)

pub guess_at-returns-in_ok-terms-in-None : goal.guess_at-returns-in_ok-terms-in-None
guess_at-returns-in_ok-terms-in-None t c = λ know told.
    let def = c.in-Some.def.now in
    let es = free_edges c.args.state.now c.args.used.now in
    let less : c.args.left ≡ suc (c.args.left - 1) = omega (arith, c.if-left-eq0.false) in
    let defined : slice_get c.args.defs.now c.args.pred.0 ≡ Some def = slice_get_read c.args.defs.now (length c.args.defs.now) c.args.pred.0 def refl c.in-Some.ensures.lookup.3.0 c.in-Some.ensures.lookup.1 in
    let no_stop : by_stop know c.args.at c.args.stop.now ≡ None = sym (rw c.in_default-2.is at c.in_ok-terms.ensures know told) in
    let no_summary : by_summary know c.args.pred c.args.at es ≡ None = sym (rw c.in_default-3.is at c.in_ok-terms-2.ensures know told) in
    let none : None ≡ first_block know c.args.at es c.as_slice-rules.result.now = rw c.in_default-4.is at c.in_ok-found.ensures know told in
    let nothing : None ≡ first_empty c.as_slice-rules.result.now = c.in-None.ensures in
    at_zero know c.args.defs.now c.args.stop.now c.args.left (c.args.left - 1) c.args.pred c.args.at c.args.state.now c.args.used.now def c.as_slice-rules.result.now c.in_ok-terms-in-None.terms.items
    less defined no_stop no_summary c.as_slice-rules.ensures none nothing (c.in_ok-terms-in-None.ensures ∙ ap (λ (z : ℕ). replicate z zero_term) c.len.ensures)
