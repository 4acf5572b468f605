use Rattle.std.proofs.Common.{◌≡◌, ◌∙◌, Bool, true, false, sym}
use Rattle.std.specs.Prelude.{◌↔◌}
use Rattle.std.proofs.lemmas.Result.{IfOk-weaker}
use Rattle.mc_document.specs.Places.{IsCertificateInPlace}
use Rattle.mc_find.specs.Analysis.Findings.{IsFound}
use Rattle.mc_find.proofs.AcceptedLemmas.{all_checked}
use Rattle.mc_find.proofs.accepted.is_found.Goals as goal

pub returns-then-not-ends_few : goal.returns-then-not-ends_few
returns-then-not-ends_few c = (
  λ yes. absurd (cc yes),
  λ found.
      (let clash : false ≡ true = sym c.if-not-ends_few.true ∙ c.ends_few.ensures.1 found.within in
      absurd (cc clash)),
)

pub returns-then-not-branch : goal.returns-then-not-branch
returns-then-not-branch c = (
  λ yes. absurd (cc yes),
  λ found.
      (let clash : false ≡ true = sym c.if-not-branch.true ∙ c.in_ok-has_cuts.ensures.1 found.cuts in
      absurd (cc clash)),
)

pub returns : goal.returns
returns c =
    let flow = c.args.flow.now in
    let defs = c.args.defs.now in
    let merge = c.args.merge in
    let lines = c.args.lines.now in
    IfOk-weaker c.is_certificate.result (λ (is : Bool). (is ≡ true) ↔ IsCertificateInPlace flow defs lines) (λ (is : Bool). (is ≡ true) ↔ IsFound flow defs merge lines)
    (λ is told. all_checked flow defs merge lines is (c.ends_few.ensures.0 c.if-not-ends_few.false) (c.in_ok-has_cuts.ensures.0 c.if-not-branch.false) told)
    c.is_certificate.ensures
