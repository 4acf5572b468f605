-- A chain of one pass that has not ended goes on as a chain of several passes.
use Rattle.std.proofs.Common.{◌≡◌, ◌∙◌, ℕ, suc, Bool, false, List, [], ◌∷◌, refl, ap, subst}
use Rattle.std.specs.Prelude.{Result, Ok, Err, ◌||◌}
use Rattle.mc_lines.specs.declared.cert.line.Line.{Line}
use Rattle.mc_lines.specs.declared.cert.line.Line.TheVariants.{C2, C3}
use Rattle.mc_flow.specs.declared.defs.rules.Def.{Def}
use Rattle.mc_flow.specs.declared.graph.Flow.{Flow}
use Rattle.mc_state.specs.Premises.{Judged, then_give}
use Rattle.mc_state.proofs.Numbered.{have_ok}
use Rattle.mc_state.specs.declared.line.Form.TheVariants.{Chain}
use Rattle.mc_kernel.specs.Readings as kernel
use Rattle.mc_kernel.specs.Readings.{first_branch, ready}
use Rattle.mc_kernel.specs.Reading.Documents.{IsJudge}
use Rattle.mc_follow.specs.Alarms.Outcomes.{IsFront}
use Rattle.mc_document.specs.Spelled.{SpellAll}
use Rattle.mc_joins.specs.Chains.Chains.{changes, changes_some}
use Rattle.mc_joins.specs.Chains.InOrder.{behind, in_order}
use Rattle.mc_joins.specs.Chains.Judges.{Lore, Reading, begun_chain, finished, reading_chain, reading_line, reading_lines}
use Rattle.mc_joins.specs.Chains.Laws.{IsRight}
use Rattle.mc_joins.specs.Chains.Short.{ShortReadingsAgree, as_chain, seen_as_chain, stage_of}
use Rattle.mc_judge.specs.Documents.{Document, chain, read_line}
use Rattle.mc_judge.specs.Judge.Verdicts.{GoesOn}

-- ---- lines of chains of one pass

module _ (k : Lore) (flow : Flow) (defs : List Def) where
  abbrev one_line : Line → kernel.Reading → Judged kernel.Reading
  one_line = kernel.reading_line k.lines k.formed flow defs

  abbrev one_pass : ℕ → List Line → kernel.Reading → Result kernel.Reading (ℕ × ℕ)
  one_pass = kernel.reading_lines k.lines k.formed flow defs

  -- they change no state of a cut
  no_change : (l : Line) (r next : kernel.Reading) → one_line l r ≡ Ok next → changes l ≡ false
  no_change (C2 tries) r next e =
      let begun = have_ok 1 (ready flow r r.stage) _ next e in
      let first = have_ok 1 (first_branch begun.0.branches) _ next begun.2 in
      absurd (cc first.2)
  no_change (C3 j steps) r next e =
      let begun = have_ok 1 (ready flow r r.stage) _ next e in
      let first = have_ok 1 (first_branch begun.0.branches) _ next begun.2 in
      absurd (cc first.2)
  no_change l r next e = refl

  -- what is read after a line is read where the line is
  one_more : (n : ℕ) (own : Judged kernel.Reading) (others : kernel.Reading → Result kernel.Reading (ℕ × ℕ)) (last : kernel.Reading) → kernel.behind n own others ≡ Ok last
      → (r : kernel.Reading) × (own ≡ Ok r) × (others r ≡ Ok last)
  one_more n (Ok r) others last e = (r, refl, e)
  one_more n (Err p) others last e = absurd (cc e)

  no_changes : (n : ℕ) (lines : List Line) (r last : kernel.Reading) → one_pass n lines r ≡ Ok last → changes_some lines ≡ false
  no_changes n [] r last e = refl
  no_changes n (l ∷ lines) r last e =
      let read = one_more n (one_line l r) (one_pass (suc n) lines) last e in
      ap (λ (b : Bool). b || changes_some lines) (no_change l r read.0 read.1) ∙ no_changes (suc n) lines read.0 last read.2

  -- ---- documents

  -- a line of a chain
  then_chain : (n : ℕ) (j : Judged Reading) (others : Reading → Result Reading (ℕ × ℕ)) (rest : Document → Result Document (ℕ × ℕ)) (last : Reading)
      → ((r : Reading) → others r ≡ Ok last → rest (chain r) ≡ Ok (chain last)) → behind n j others ≡ Ok last → behind n (then_give chain j) rest ≡ Ok (chain last)
  then_chain n (Ok r) others rest last on e = on r e
  then_chain n (Err p) others rest last on e = absurd (cc e)

  -- a chain that is read is a document that is read
  as_document : (n : ℕ) (lines : List Line) (r last : Reading) → reading_lines k flow defs n lines r ≡ Ok last → in_order (read_line k flow defs) n lines (chain r) ≡ Ok (chain last)
  as_document n [] r last e = let same : r ≡ last = cc e in ap (λ (x : Reading). let d : Result Document (ℕ × ℕ) = Ok (chain x) in d) same
  as_document n (l ∷ lines) r last e =
      then_chain n (reading_line k flow defs l r) (reading_lines k flow defs (suc n) lines) (in_order (read_line k flow defs) (suc n) lines) last (λ s. as_document (suc n) lines s last) e

  not_ended : (stage : kernel.Stage) → (stage ≡ kernel.finished → ⊥) → stage_of stage ≡ finished → ⊥
  not_ended kernel.cutting still e = cc e
  not_ended kernel.heading still e = cc e
  not_ended kernel.ruling still e = cc e
  not_ended kernel.finished still e = still refl

  judges_too : IsRight k flow defs → IsJudge k.lines k.formed flow defs
  judges_too right = record { asked = right.asked; formed = right.formed }

  -- a document that begins a chain of one pass goes on
  pub front_goes_on : ShortReadingsAgree → (texts : List (List ℕ)) (lines : List Line) → IsRight k flow defs → SpellAll texts lines → IsFront flow defs lines → GoesOn k flow defs texts
  front_goes_on short [] lines right spelled front = tt
  front_goes_on short (t ∷ texts) lines right spelled front =
      let one = front.reads k.lines k.formed (judges_too right) in
      let none = no_changes 2 front.behind (kernel.begun Chain) one.last one.read in
      let read : reading_chain k flow defs front.behind ≡ Ok (as_chain one.last) = short k flow defs front.behind none ∙ ap seen_as_chain one.read in (
        chain (as_chain one.last),
        record {
          form = Chain;
          lines = front.behind;
          spelled = subst (λ (ls : List Line). SpellAll (t ∷ texts) ls) front.spelled spelled;
          read = as_document 2 front.behind begun_chain (as_chain one.last) read;
        },
        not_ended one.last.stage one.not_ended,
      )
