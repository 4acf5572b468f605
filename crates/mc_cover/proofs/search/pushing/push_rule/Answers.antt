use Rattle.std.proofs.Common.{ap, refl}
use Rattle.std.specs.Prelude.{is_some}
use Rattle.mc_cover.proofs.SearchLemmas.Pushed.{none_by, some_by, rule_pushed}
use Rattle.mc_cover.proofs.search.pushing.push_rule.Goals as goal

pub returns-in-None : goal.returns-in-None
returns-in-None c = λ know defs t. (ap is_some (none_by _ _ _ c.in-None.is (c.in_ok-names_by.ensures know defs t)), refl)

pub returns-in_ok-top-in-Some : goal.returns-in_ok-top-in-Some
returns-in_ok-top-in-Some c = λ know defs t.
    rule_pushed _ c.args.rule.now c.in-Some.names.items c.deref.result.now c.as_slice.result.now _ _ c.args.rest c.in_ok-top-in-Some.top
    (some_by _ _ _ c.in-Some.names c.in-Some.is (c.in_ok-names_by.ensures know defs t)) c.deref.ensures.value c.as_slice.ensures c.in_ok-top-in-Some.ensures
