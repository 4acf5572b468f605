-- Lines that may stand where they are read.
use Rattle.std.proofs.Common.{◌≡◌, ◌∙◌, ℕ, suc, List, [], ◌∷◌, ◌++◌, Bool, true, sym, subst}
use Rattle.std.specs.Prelude.{Ok}
use Rattle.mc_lines.specs.declared.cert.line.Line.{Line}
use Rattle.mc_flow.specs.declared.defs.rules.Def.{Def}
use Rattle.mc_flow.specs.declared.graph.Flow.{Flow}
use Rattle.mc_state.specs.declared.raw_state.RawState.{RawState}
use Rattle.mc_state.specs.Premises.{Judged}
use Rattle.mc_kernel.specs.Judges.{Knowledge}
use Rattle.mc_kernel.specs.Readings.{Reading, reading_line, reading_lines}
use Rattle.mc_kernel.proofs.ReadingLemmas.Rules.{behind_ok, same_reading}
use Rattle.mc_document.specs.Places.{AreInPlace, may_stand}

-- what a line makes of a document is one
pub one_next : (r next : Reading) (j : Judged Reading) → j ≡ Ok r → j ≡ Ok next → r ≡ next
one_next r next j e f = let both : ◌≡◌ {A = Judged Reading} (Ok r) (Ok next) = sym e ∙ f in cc both

module _ (k : Knowledge) (well : RawState → Bool) (flow : Flow) (defs : List Def) where
  -- a line after others that are read may stand where they lead
  pub placed_there : (n : ℕ) (before later : List Line) (l : Line) (r last : Reading) → reading_lines k well flow defs n before r ≡ Ok last
      → AreInPlace k well flow defs (before ++ l ∷ later) r → may_stand l last.branches ≡ true
  placed_there n [] later l r last e placed = subst (λ (s : Reading). may_stand l s.branches ≡ true) (same_reading r last e) placed.0
  placed_there n (m ∷ before) later l r last e placed =
      let s = behind_ok n (reading_line k well flow defs m r) (reading_lines k well flow defs (suc n) before) last e in
      placed_there (suc n) before later l s.0 last s.2 (placed.1 s.0 s.1)

  -- and one that may stand there is in its place after them
  pub placed_more : (n : ℕ) (before : List Line) (l : Line) (r last : Reading) → reading_lines k well flow defs n before r ≡ Ok last
      → AreInPlace k well flow defs before r → may_stand l last.branches ≡ true → AreInPlace k well flow defs (before ++ l ∷ []) r
  placed_more n [] l r last e placed may =
      (subst (λ (s : Reading). may_stand l s.branches ≡ true) (sym (same_reading r last e)) may, λ next read. tt)
  placed_more n (m ∷ before) l r last e placed may =
      let s = behind_ok n (reading_line k well flow defs m r) (reading_lines k well flow defs (suc n) before) last e in (
        placed.0,
        λ next read.
            placed_more (suc n) before l next last
            (subst (λ (t : Reading). reading_lines k well flow defs (suc n) before t ≡ Ok last) (one_next s.0 next (reading_line k well flow defs m r) s.1 read) s.2)
            (placed.1 next read) may,
      )
