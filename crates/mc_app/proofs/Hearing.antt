-- What a judge has read of a file.
use Rattle.std.proofs.Common.{◌≡◌, ◌≤◌, ◌++◌, ◌+◌, ℕ, zero, suc, List, [], ◌∷◌, length, refl, ap, arith, take, drop, subst, sym, ap₂, ◌∙◌}
use Rattle.std.proofs.Math.Seq.{take-add}
use Rattle.mc_lines.specs.Cert.Lines.{lines_of}
use Rattle.mc_flow.specs.declared.defs.rules.Def.{Def}
use Rattle.mc_flow.specs.declared.graph.Flow.{Flow}
use Rattle.mc_judge.specs.declared.judge.judge.Judge.{Judge}
use Rattle.mc_judge.specs.declared.judge.verdict.Verdict.{Verdict}
use Rattle.mc_judge.specs.Judge.Stages.{HasHeard, Hears, StaysFor}
use Rattle.mc_judge.specs.Judge.Verdicts.{IsVerdict, Tells}
use Rattle.mc_joins.specs.Chains.Judges.{Lore}
use Rattle.mc_joins.specs.Chains.Laws.{IsRight}
use Rattle.mc_app.specs.Documents.{IsHeard, IsRightVerdict}

-- who judges rightly for one judge does so for another of the same flow graph and definitions
judges_too : (k : Lore) (f g : Flow) (ds es : List Def) → f ≡ g → ds ≡ es → IsRight k f ds → IsRight k g es
judges_too k f g ds es e d h = subst (λ (xs : List Def). IsRight k g xs) d (subst (λ (x : Flow). IsRight k x ds) e h)

-- the judge has read a piece more
pub heard_more : (text piece : List ℕ) (old new : Judge) → StaysFor old new → IsHeard text old → Hears piece old new → IsHeard (text ++ piece) new
heard_more text piece old new same heard hears k judge =
    let before = judges_too k new.flow.now old.flow.now new.defs.now old.defs.now same.0 same.1 judge in
    hears k text before (heard k before)

-- and with it the front of what is held
pub front_more : (bytes text piece : List ℕ) (at n : ℕ) → text ≡ take at bytes → piece ≡ take n (drop at bytes) → text ++ piece ≡ take (at + n) bytes
front_more bytes text piece at n e d = ap₂ (λ (a b : List ℕ). a ++ b) e d ∙ sym (take-add at n bytes)

-- the judge that has read nothing
pub fresh : (flow : Flow) (defs : List Def) (judge : Judge) → judge.flow.now ≡ flow → judge.defs.now ≡ defs
    → ((k : Lore) → IsRight k flow defs → HasHeard k [] judge) → IsHeard [] judge
fresh flow defs judge e d heard k right = heard k (judges_too k judge.flow.now flow judge.defs.now defs e d right)

module _ (flow : Flow) (defs : List Def) (judge : Judge) (same_flow : judge.flow.now ≡ flow) (same_defs : judge.defs.now ≡ defs) (text : List ℕ) (heard : IsHeard text judge) where
  abbrev back : (k : Lore) → IsRight k flow defs → IsRight k judge.flow.now judge.defs.now
  back k right = judges_too k flow judge.flow.now defs judge.defs.now (sym same_flow) (sym same_defs) right

  -- what is said of what was read is said rightly
  pub right_verdict : (v : Verdict)
      → ((k : Lore) (t : List ℕ) → IsRight k judge.flow.now judge.defs.now → HasHeard k t judge → IsVerdict k judge.flow.now judge.defs.now (lines_of t) v)
      → IsRightVerdict flow defs text v
  right_verdict v h = λ k right.
      subst (λ (ds : List Def). IsVerdict k flow ds (lines_of text) v) same_defs
      (subst (λ (f : Flow). IsVerdict k f judge.defs.now (lines_of text) v) same_flow
      (h k text (back k right) (heard k (back k right))))

  -- and without a judge
  pub told_verdict : (v : Verdict) (k : Lore) → IsRight k flow defs
      → ((k : Lore) (t : List ℕ) → IsRight k judge.flow.now judge.defs.now → HasHeard k t judge → Tells judge.flow.now judge.defs.now t v)
      → Tells flow defs text v
  told_verdict v k right h =
      subst (λ (ds : List Def). Tells flow ds text v) same_defs
      (subst (λ (f : Flow). Tells f judge.defs.now text v) same_flow
      (h k text (back k right) (heard k (back k right))))

-- the front of what stands before other bytes
pub front_of : (n : ℕ) (xs ys : List ℕ) → n ≤ length xs → take n (xs ++ ys) ≡ take n xs
front_of zero xs ys h = refl
front_of (suc n) [] ys h = absurd (omega arith)
front_of (suc n) (x ∷ xs) ys h = ap (λ (zs : List ℕ). x ∷ zs) (front_of n xs ys (omega arith))

pub front_length : (n : ℕ) (xs ys : List ℕ) → n ≤ length xs → length (take n (xs ++ ys)) ≡ n
front_length zero xs ys h = refl
front_length (suc n) [] ys h = absurd (omega arith)
front_length (suc n) (x ∷ xs) ys h = ap suc (front_length n xs ys (omega arith))
