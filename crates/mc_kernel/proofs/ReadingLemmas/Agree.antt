-- What judges rightly judges alike.
use Rattle.std.proofs.Common.{◌≡◌, ℕ, suc, List, [], ◌∷◌, ◌++◌, Bool, inl, inr, Option, Some, None, refl, ap, sym, subst, ◌∙◌}
use Rattle.std.specs.Prelude.{Ok, ◌&&◌}
use Rattle.std.specs.List.{AllByRecursion}
use Rattle.mc_lines.specs.declared.cert.line.Line.{Line}
use Rattle.mc_lines.specs.declared.cert.line.Line.TheVariants as line
use Rattle.mc_flow.specs.declared.defs.rules.Def.{Def}
use Rattle.mc_flow.specs.declared.graph.Flow.{Flow}
use Rattle.mc_flow.specs.Valid.{IsValid}
use Rattle.mc_state.specs.Premises.{Judged, need, have, then_give}
use Rattle.mc_state.proofs.Numbered.{given_or_unmet}
use Rattle.mc_state.specs.declared.raw_state.RawState.{RawState}
use Rattle.mc_kernel.specs.Judges.{Knowledge, is_cut}
use Rattle.mc_kernel.specs.Readings.{Reading, heading, may_head, stands_after, behind, begun, ready, setting_of, first_branch, reading_rule, reading_line, reading_lines}
use Rattle.mc_kernel.specs.Reading.Documents.{IsMade, IsJudge, IsKept}
use Rattle.mc_kernel.specs.Reading.Laws.{JudgesAgree}
use Rattle.mc_kernel.proofs.ReadingLemmas.Kept.{begun_is_kept, lines_keep, ready_kept, first_is}
use Rattle.mc_kernel.proofs.ReadingLemmas.LinesAgree.{lines_agree, one_test}
use Rattle.mc_kernel.proofs.ReadingLemmas.Rules.{Right, behind_yes}

module _ (right : Right) (k : Knowledge) (well : RawState → Bool) (other : Knowledge) (formed : RawState → Bool) (flow : Flow) (defs : List Def)
    (valid : IsValid flow defs) (judge : IsJudge k well flow defs) (judge' : IsJudge other formed flow defs) where
  -- premises that are read on alike
  have_same : {W : Type 0} (n : ℕ) (o : Option W) (f h : W → Judged Reading) → ((w : W) → o ≡ Some w → f w ≡ h w) → have n o f ≡ have n o h
  have_same n None f h same = refl
  have_same n (Some w) f h same = same w refl

  rule_same : (l : Line) (r : Reading) → IsKept flow defs r → reading_rule k flow defs l r ≡ reading_rule other flow defs l r
  rule_same l r kept =
      have_same 1 (ready flow r r.stage) _ _ (λ t is.
      have_same 1 (first_branch t.branches) _ _ (λ b first.
      let made = subst (AllByRecursion (IsMade flow defs)) (first_is t.branches b first) (ready_kept right k well flow defs valid judge r t kept is).branches in
      ap (then_give _) (lines_agree flow defs (setting_of t) b.0 right.judged k other (judge.asked b.0 made.0) (judge'.asked b.0 made.0) l)))

  head_same : (raw : RawState) → well raw ≡ formed raw
  head_same raw = one_test (well raw) (formed raw) (λ e. (judge'.formed raw).1 ((judge.formed raw).0 e)) (λ e. (judge.formed raw).1 ((judge'.formed raw).0 e))

  reading_same : (l : Line) (r : Reading) → IsKept flow defs r → reading_line k well flow defs l r ≡ reading_line other formed flow defs l r
  reading_same (line.Header version form) r kept = refl
  reading_same (line.Cut p) r kept = refl
  reading_same (line.Head p raw) r kept =
      ap (λ (b : Bool). need 1 (may_head flow r r.stage) (need 3 (is_cut r.cuts p && stands_after r.heads p) (need 4 b (Ok (record r { stage = heading; heads = r.heads ++ (p, raw) ∷ [] }))))) (head_same raw)
  reading_same line.Pass r kept = refl
  reading_same line.End r kept = refl
  reading_same l r kept = rule_same l r kept

  lines_same : (n : ℕ) (lines : List Line) (r : Reading) → IsKept flow defs r → reading_lines k well flow defs n lines r ≡ reading_lines other formed flow defs n lines r
  lines_same n [] r kept = refl
  lines_same n (l ∷ lines) r kept =
      let same = reading_same l r kept in
      elim (given_or_unmet (reading_line k well flow defs l r)) [
        | inl given ↦
            behind_yes n _ (reading_lines k well flow defs (suc n) lines) given.0 given.1
            ∙ lines_same (suc n) lines given.0 (lines_keep right k well flow defs l r given.0 valid judge kept given.1)
            ∙ sym (behind_yes n _ (reading_lines other formed flow defs (suc n) lines) given.0 (sym same ∙ given.1))
        | inr unmet ↦
            ap (λ (j : Judged Reading). behind n j (reading_lines k well flow defs (suc n) lines)) unmet.1
            ∙ sym (ap (λ (j : Judged Reading). behind n j (reading_lines other formed flow defs (suc n) lines)) (sym same ∙ unmet.1))
      ]

pub judges_agree : Right → JudgesAgree
judges_agree right k well other formed flow defs form lines valid judge judge' =
    lines_same right k well other formed flow defs valid judge judge' 2 lines (begun form) (begun_is_kept flow defs form)
