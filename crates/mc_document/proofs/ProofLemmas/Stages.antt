-- What lines become at each stage.
use Rattle.std.proofs.Common.{◌≡◌, Bool, true, false, refl, ap, sym, subst}
use Rattle.std.specs.Prelude.{Result, Ok, Err}
use Rattle.mc_lines.specs.declared.cert.line.Line.{Line}
use Rattle.mc_state.specs.Premises.{Judged, need}
use Rattle.mc_kernel.specs.Branches.{roots}
use Rattle.mc_kernel.specs.Judges.{Knowledge}
use Rattle.mc_kernel.specs.Readings.{Stage, cutting, heading, ruling, finished, is_ruling, has_no_branch}
use Rattle.mc_document.specs.declared.proof.fault.ApplyFault.{ApplyFault}
use Rattle.mc_document.specs.Proof.Lines.{ComesTo, ending_at, rule_at, ruling_at, ruled_at, is_ready_at, readied}
use Rattle.mc_document.specs.Proof.Positions.{Position}

module _ (q : Position) where
  abbrev ending_in : Stage → Judged Position
  ending_in stage =
      need 1 (is_ready_at q stage)
      (need 3 (has_no_branch (readied q stage).branches)
      (Ok (record (readied q stage) { stage = finished })))

  not_ready_in : (stage : Stage) → is_ready_at q stage ≡ false → ending_in stage ≡ Err 1
  not_ready_in stage e = ap (λ (b : Bool). need 1 b (need 3 (has_no_branch (readied q stage).branches) (Ok (record (readied q stage) { stage = finished })))) e

  pub end_not_ready : is_ready_at q q.stage ≡ false → ending_at q ≡ Err 1
  end_not_ready e = not_ready_in q.stage e

  rooted_still : (b : Bool) → b ≡ true → ◌≡◌ {A = Judged Position} (need 1 b (Err 3)) (Err 3)
  rooted_still b e = ap (λ (b : Bool). need {A = Position} 1 b (Err 3)) e

  open_in : (stage : Stage) → is_ready_at q stage ≡ true → is_ruling stage ≡ false → ending_in stage ≡ Err 3
  open_in cutting e f = rooted_still (is_ready_at q cutting) e
  open_in heading e f = rooted_still (is_ready_at q heading) e
  open_in ruling e f = absurd (cc f)
  open_in finished e f = absurd (cc e)

  -- where rule lines only begin the entry is open
  pub end_not_begun : is_ready_at q q.stage ≡ true → is_ruling q.stage ≡ false → ending_at q ≡ Err 3
  end_not_begun e f = open_in q.stage e f

  closing_in : (stage : Stage) → is_ruling stage ≡ true → ending_in stage ≡ need 3 (has_no_branch q.branches) (Ok (record q { stage = finished }))
  closing_in cutting f = absurd (cc f)
  closing_in heading f = absurd (cc f)
  closing_in ruling f = refl
  closing_in finished f = absurd (cc f)

  pub end_ruling : is_ruling q.stage ≡ true → ending_at q ≡ need 3 (has_no_branch q.branches) (Ok (record q { stage = finished }))
  end_ruling f = closing_in q.stage f

  module _ (k : Knowledge) (l : Line) where
    abbrev rule_in : Stage → Judged Position
    rule_in stage = need 1 (is_ready_at q stage) (ruling_at k l (readied q stage))

    pub rule_not_ready : is_ready_at q q.stage ≡ false → rule_at k l q ≡ Err 1
    rule_not_ready e = ap (λ (b : Bool). need 1 b (ruling_at k l (readied q q.stage))) e

    going_in : (stage : Stage) → is_ruling stage ≡ true → rule_in stage ≡ ruling_at k l q
    going_in cutting f = absurd (cc f)
    going_in heading f = absurd (cc f)
    going_in ruling f = refl
    going_in finished f = absurd (cc f)

    beginning_in : (stage : Stage) → is_ready_at q stage ≡ true → is_ruling stage ≡ false → rule_in stage ≡ ruling_at k l (ruled_at q (roots q.flow q.heads))
    beginning_in cutting e f = ap (λ (b : Bool). need 1 b (ruling_at k l (ruled_at q (roots q.flow q.heads)))) e
    beginning_in heading e f = ap (λ (b : Bool). need 1 b (ruling_at k l (ruled_at q (roots q.flow q.heads)))) e
    beginning_in ruling e f = absurd (cc f)
    beginning_in finished e f = absurd (cc e)

    pub goes_on : (old new : Position) (result : Result Unit ApplyFault) → is_ruling q.stage ≡ true
        → ComesTo (ruling_at k l q) old new result → ComesTo (rule_at k l q) old new result
    goes_on old new result f told = subst (λ (j : Judged Position). ComesTo j old new result) (sym (going_in q.stage f)) told

    pub begins : (old new : Position) (result : Result Unit ApplyFault) → is_ready_at q q.stage ≡ true → is_ruling q.stage ≡ false
        → ComesTo (ruling_at k l (ruled_at q (roots q.flow q.heads))) old new result → ComesTo (rule_at k l q) old new result
    begins old new result e f told = subst (λ (j : Judged Position). ComesTo j old new result) (sym (beginning_in q.stage e f)) told
