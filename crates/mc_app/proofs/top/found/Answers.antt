use Rattle.std.proofs.Common.{List, ℕ, map, subst, sym}
use Rattle.std.specs.Prelude.{None, Option, Some, string_bytes}
use Rattle.mc_app.specs.Answers.{HasTarget}
use Rattle.mc_app.proofs.Asked.{has_target, safe_for_words}
use Rattle.mc_app.proofs.Whys.{at_none}
use Rattle.mc_app.proofs.top.found.Goals as goal
use Rattle.mc_load.proofs.InputsLemmas.Picking.{at_some}

pub returns-in_ok-answer-in-Some-clause-why : goal.returns-in_ok-answer-in-Some-clause-why
returns-in_ok-answer-in-Some-clause-why g c =
    let words = map string_bytes c.args.words.now in
    let asked = at_some c.in_ok-request.field-0 c.in-Some.request _ _ c.in-Some.is c.in_ok-request.ensures in
    c.in_ok-answer-in-Some.ensures.why words asked

pub returns-in_ok-answer-in-Some-clause-safe : goal.returns-in_ok-answer-in-Some-clause-safe
returns-in_ok-answer-in-Some-clause-safe g c = λ good.
    let words = map string_bytes c.args.words.now in
    let asked = at_some c.in_ok-request.field-0 c.in-Some.request _ _ c.in-Some.is c.in_ok-request.ensures in
    safe_for_words (g.F.Files.holds c.args.files.now) words c.in-Some.request asked (c.in_ok-answer-in-Some.ensures.safe words asked good)

pub returns-in_ok-answer-in-Some-clause-target : goal.returns-in_ok-answer-in-Some-clause-target
returns-in_ok-answer-in-Some-clause-target g c =
    let words = map string_bytes c.args.words.now in
    let asked = at_some c.in_ok-request.field-0 c.in-Some.request _ _ c.in-Some.is c.in_ok-request.ensures in
    subst (λ (t : Option (List ℕ)). HasTarget words t) (sym c.target-target.ensures) (has_target words (Some c.in-Some.request) asked)

pub returns-in-None-clause-why : goal.returns-in-None-clause-why
returns-in-None-clause-why g c = at_none c.in_ok-request.field-0 _ _ c.in-None.is c.in_ok-request.ensures

pub returns-in-None-clause-target : goal.returns-in-None-clause-target
returns-in-None-clause-target g c =
    has_target (map string_bytes c.args.words.now) None (at_none c.in_ok-request.field-0 _ _ c.in-None.is c.in_ok-request.ensures)
