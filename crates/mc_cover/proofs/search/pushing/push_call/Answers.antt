use Rattle.std.proofs.Common.{ap, refl, sym}
use Rattle.mc_state.specs.Lists.{on_some}
use Rattle.mc_cover.specs.Marks.{has_call}
use Rattle.mc_cover.proofs.SearchLemmas.Pushed.{none_by, some_by, call_pushed}
use Rattle.mc_cover.proofs.search.pushing.push_call.Goals as goal

pub returns-in-None : goal.returns-in-None
returns-in-None c = λ know defs t. (ap (on_some (has_call c.args.goal.now.pred c.args.place)) (none_by _ _ _ c.in-None.is (c.in_ok-names_by.ensures know defs t)), refl)

pub returns-in_ok-top-in-Some : goal.returns-in_ok-top-in-Some
returns-in_ok-top-in-Some c = λ know defs t.
    call_pushed _ c.args.goal.now.pred c.args.goal.now.stop c.args.place c.args.rule.now c.in-Some.names.items c.deref.result.now c.as_slice-calls.result.now _ _ c.args.rest c.in_ok-top-in-Some.top
    (some_by _ _ _ c.in-Some.names c.in-Some.is (c.in_ok-names_by.ensures know defs t)) c.deref.ensures.value c.as_slice-calls.ensures (sym c.if-not-has_call.ensures) c.in_ok-top-in-Some.ensures
