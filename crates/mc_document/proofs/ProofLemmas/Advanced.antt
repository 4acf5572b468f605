-- A line at the first of some branches.
use Rattle.std.proofs.Common.{◌≡◌, ◌∙◌, ℕ, List, ◌∷◌, ◌++◌, ap, sym, subst}
use Rattle.std.specs.Prelude.{Ok, Err}
use Rattle.mc_lines.specs.declared.cert.line.Line.{Line}
use Rattle.mc_flow.specs.declared.defs.rules.Def.{Def}
use Rattle.mc_flow.specs.declared.graph.Flow.{Flow}
use Rattle.mc_flow.specs.Valid.{IsValid}
use Rattle.mc_state.specs.Premises.{then_give}
use Rattle.mc_kernel.specs.Branches.{Path, Setting}
use Rattle.mc_kernel.specs.JudgedLaws.{IsAsked, LinesAreJudged}
use Rattle.mc_kernel.specs.Judges.{Knowledge, judged_line}
use Rattle.mc_kernel.specs.Reading.Documents.{IsMade}
use Rattle.mc_kernel.specs.Reading.Laws.{LinesMakeWellMade}
use Rattle.mc_kernel.proofs.ReadingLemmas.Lists.{all_join}
use Rattle.mc_kernel.specs.Oracle.Judges.{JudgesAreThere}
use Rattle.mc_document.specs.Proof.Lines.{AnswersAll, advanced}
use Rattle.mc_document.specs.Proof.Stacks.{AreMade}

module _ (flow : Flow) (defs : List Def) (g : Setting) (l : Line) (old new rest : List Path) (b : Path) (popped : old ≡ b ∷ rest) (made : AreMade flow defs old) where
  pub both_made : AreMade flow defs (b ∷ rest)
  both_made = subst (AreMade flow defs) popped made

  -- its successors come in its place
  pub comes_given : (next : List Path)
      → ((k : Knowledge) → IsAsked k flow defs b → judged_line k flow defs g l b ≡ Ok next) → new ≡ next ++ rest
      → (k : Knowledge) → AnswersAll k flow defs → advanced k flow defs g l old ≡ Ok new
  comes_given next told e k all =
      ap (advanced k flow defs g l) popped
      ∙ ap (then_give (λ (n : List Path). n ++ rest)) (told k (all b both_made.0))
      ∙ ap (λ (x : List Path). Ok x) (sym e)

  -- a refused line leaves it
  pub comes_refused : (premise : ℕ) (same : Path)
      → ((k : Knowledge) → IsAsked k flow defs b → (judged_line k flow defs g l b ≡ Err premise) × (same ≡ b)) → new ≡ same ∷ rest
      → (k : Knowledge) → AnswersAll k flow defs → (advanced k flow defs g l old ≡ Err premise) × (new ≡ old)
  comes_refused premise same told e k all =
      let is = told k (all b both_made.0) in (
        ap (advanced k flow defs g l) popped ∙ ap (then_give (λ (n : List Path). n ++ rest)) is.0,
        e ∙ ap (λ (p : Path). p ∷ rest) is.1 ∙ sym popped,
      )

  module _ (judged : LinesAreJudged) (makes : LinesMakeWellMade) (there : JudgesAreThere) (valid : IsValid flow defs) where
    -- what comes of it is made
    pub given_made : (next : List Path)
        → ((k : Knowledge) → IsAsked k flow defs b → judged_line k flow defs g l b ≡ Ok next) → new ≡ next ++ rest → AreMade flow defs new
    given_made next told e =
        let judge = there flow defs valid in
        let asked = judge.2.asked b both_made.0 in
        let instance = (judged judge.0 flow defs g l b asked next).0 (told judge.0 asked) in
        subst (AreMade flow defs) (sym e) (all_join (IsMade flow defs) next rest (makes flow defs g l b next valid both_made.0 instance) both_made.1)

    -- and a refused line leaves what was made
    pub refused_made : (premise : ℕ) (same : Path)
        → ((k : Knowledge) → IsAsked k flow defs b → (judged_line k flow defs g l b ≡ Err premise) × (same ≡ b)) → new ≡ same ∷ rest → AreMade flow defs new
    refused_made premise same told e =
        let judge = there flow defs valid in
        let is = (told judge.0 (judge.2.asked b both_made.0)).1 in
        subst (AreMade flow defs) (sym (e ∙ ap (λ (p : Path). p ∷ rest) is ∙ sym popped)) made
