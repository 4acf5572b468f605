-- The first line that is refused.
use Rattle.std.proofs.Common.{◌≡◌, ◌⊎◌, inl, inr, ◌+◌, ℕ, suc, List, [], ◌∷◌, ◌++◌, length, refl, ap, sym, ◌∙◌, arith}
use Rattle.std.specs.Prelude.{Bool, Result, Ok, Err}
use Rattle.mc_lines.specs.declared.cert.line.Line.{Line}
use Rattle.mc_flow.specs.declared.defs.rules.Def.{Def}
use Rattle.mc_flow.specs.declared.graph.Flow.{Flow}
use Rattle.mc_state.specs.Premises.{Judged}
use Rattle.mc_state.proofs.Numbered.{given_or_unmet}
use Rattle.mc_state.specs.declared.line.Form.{Form}
use Rattle.mc_state.specs.declared.line.Form.TheVariants.{Certificate}
use Rattle.mc_state.specs.declared.raw_state.RawState.{RawState}
use Rattle.mc_kernel.specs.Branches.{Path}
use Rattle.mc_kernel.specs.Judges.{Knowledge}
use Rattle.mc_kernel.specs.Readings.{Reading, Stage, cutting, heading, ruling, finished, behind, begun, reading_line, reading_lines}
use Rattle.mc_kernel.specs.Reading.Documents.{Ends, IsOpen, IsRefused, reading_document}
use Rattle.mc_kernel.specs.Reading.Laws.{RefusalsAreRead, RefusalIsOne, DocumentsAreDecided, ReadIsNotRefused, RefusedIsNeverValid}
use Rattle.mc_kernel.proofs.ReadingLemmas.Lists.{append_twice}
use Rattle.mc_kernel.proofs.ReadingLemmas.Rules.{Right, behind_ok, behind_yes, same_reading}
use Rattle.mc_kernel.proofs.ReadingLemmas.Whole.{certificates_are_read}

module _ (k : Knowledge) (well : RawState → Bool) (flow : Flow) (defs : List Def) where
  abbrev lines_at : ℕ → List Line → Reading → Result Reading (ℕ × ℕ)
  lines_at = reading_lines k well flow defs

  -- lines that are read come before others
  pub lines_split : (n m : ℕ) (before lines : List Line) (r mid : Reading) → m ≡ n + length before → lines_at n before r ≡ Ok mid
      → lines_at n (before ++ lines) r ≡ lines_at m lines mid
  lines_split n m [] lines r mid count e =
      let same : n ≡ m = omega arith in
      ap (λ (j : ℕ). lines_at j lines r) same ∙ ap (λ (t : Reading). lines_at m lines t) (same_reading r mid e)
  lines_split n m (l ∷ before) lines r mid count e =
      let read = behind_ok n (reading_line k well flow defs l r) (lines_at (suc n) before) mid e in
      let next : m ≡ suc n + length before = omega arith in
      behind_yes n (reading_line k well flow defs l r) (lines_at (suc n) (before ++ lines)) read.0 read.1
      ∙ lines_split (suc n) m before lines read.0 mid next read.2

  -- the lines before the first refused one, this one, and those after it
  record Split (n : ℕ) (lines : List Line) (r : Reading) (number premise : ℕ) : Type 0 where
    pub before : List Line
    pub refused : Line
    pub later : List Line
    pub spelled : lines ≡ before ++ refused ∷ later
    pub numbered : number ≡ n + length before
    pub mid : Reading
    pub read : lines_at n before r ≡ Ok mid
    pub unmet : reading_line k well flow defs refused mid ≡ Err premise

  split_from : (n : ℕ) (lines : List Line) (r : Reading) (number premise : ℕ) → lines_at n lines r ≡ Err (number, premise) → Split n lines r number premise
  split_from n [] r number premise e = absurd (cc e)
  split_from n (l ∷ lines) r number premise e = elim (given_or_unmet (reading_line k well flow defs l r)) [
    | inl given ↦ on given.0 given.1 (split_from (suc n) lines given.0 number premise (sym (behind_yes n (reading_line k well flow defs l r) (lines_at (suc n) lines) given.0 given.1) ∙ e))
    | inr unmet ↦ here unmet.0 unmet.1
  ]
    where
      on : (next : Reading) → reading_line k well flow defs l r ≡ Ok next → Split (suc n) lines next number premise → Split n (l ∷ lines) r number premise
      on next read s = record {
        before = l ∷ s.before;
        refused = s.refused;
        later = s.later;
        spelled = ap (λ (ls : List Line). l ∷ ls) s.spelled;
        numbered = let count : number ≡ suc n + length s.before = s.numbered in omega arith;
        mid = s.mid;
        read = behind_yes n (reading_line k well flow defs l r) (lines_at (suc n) s.before) next read ∙ s.read;
        unmet = s.unmet;
      }

      here : (j : ℕ) → reading_line k well flow defs l r ≡ Err j → Split n (l ∷ lines) r number premise
      here j unmet =
          let both : ◌≡◌ {A = Result Reading (ℕ × ℕ)} (Err (n, j)) (Err (number, premise)) =
          sym (ap (λ (x : Judged Reading). behind n x (lines_at (suc n) lines)) unmet) ∙ e in
          let pair : ◌≡◌ {A = ℕ × ℕ} (n, j) (number, premise) = cc both in
          let first : n ≡ number = ap (λ (x : ℕ × ℕ). x.0) pair in
          let second : j ≡ premise = ap (λ (x : ℕ × ℕ). x.1) pair in
          record {
            before = [];
            refused = l;
            later = lines;
            spelled = refl;
            numbered = omega arith;
            mid = r;
            read = refl;
            unmet = unmet ∙ ap (λ (x : ℕ). Err x) second;
          }

  refused_behind : (before later : List Line) (l : Line) (r mid : Reading) (n number premise : ℕ) → number ≡ n + length before → lines_at n before r ≡ Ok mid
      → reading_line k well flow defs l mid ≡ Err premise → lines_at n (before ++ l ∷ later) r ≡ Err (number, premise)
  refused_behind before later l r mid n number premise count read unmet =
      lines_split n number before (l ∷ later) r mid count read ∙ ap (λ (x : Judged Reading). behind number x (lines_at (suc number) later)) unmet

  refused_to : (form : Form) (lines : List Line) (number premise : ℕ) → IsRefused k well flow defs form lines number premise → reading_document k well flow defs form lines ≡ Err (number, premise)
  refused_to form lines number premise i =
      ap (λ (ls : List Line). lines_at 2 ls (begun form)) i.spelled
      ∙ refused_behind i.before i.later i.line (begun form) i.reading 2 number premise i.numbered i.read i.unmet

  refused_from : (form : Form) (lines : List Line) (number premise : ℕ) → reading_document k well flow defs form lines ≡ Err (number, premise) → IsRefused k well flow defs form lines number premise
  refused_from form lines number premise e =
      let s = split_from 2 lines (begun form) number premise e in
      record { before = s.before; line = s.refused; later = s.later; spelled = s.spelled; numbered = s.numbered; reading = s.mid; read = s.read; unmet = s.unmet }

  decided : (form : Form) (lines : List Line) (last : Reading) (stage : Stage) → last.stage ≡ stage → reading_document k well flow defs form lines ≡ Ok last
      → ((stuck : List Path) × Ends k well flow defs form lines stuck) ⊎ IsOpen k well flow defs form lines
  decided form lines last finished is e = inl (last.stuck, record { last = last; read = e; ended = is; stuck_are = refl })
  decided form lines last cutting is e = inr (record { last = last; read = e; not_ended = λ f. let clash : cutting ≡ finished = sym is ∙ f in cc clash })
  decided form lines last heading is e = inr (record { last = last; read = e; not_ended = λ f. let clash : heading ≡ finished = sym is ∙ f in cc clash })
  decided form lines last ruling is e = inr (record { last = last; read = e; not_ended = λ f. let clash : ruling ≡ finished = sym is ∙ f in cc clash })

  decide : (form : Form) (lines : List Line) (answer : Result Reading (ℕ × ℕ)) → reading_document k well flow defs form lines ≡ answer
      → ((stuck : List Path) × Ends k well flow defs form lines stuck)
      ⊎ (IsOpen k well flow defs form lines ⊎ ((n : ℕ) × (p : ℕ) × IsRefused k well flow defs form lines n p))
  decide form lines (Ok last) e = elim (decided form lines last last.stage refl e) [ inl ends ↦ inl ends | inr still ↦ inr (inl still) ]
  decide form lines (Err (n, p)) e = inr (inr (n, p, refused_from form lines n p e))

pub refusals_are_read : RefusalsAreRead
refusals_are_read k well flow defs form lines number premise = (refused_from k well flow defs form lines number premise, refused_to k well flow defs form lines number premise)

pub refusal_is_one : RefusalIsOne
refusal_is_one k well flow defs form lines n p m q i j =
    let both : ◌≡◌ {A = Result Reading (ℕ × ℕ)} (Err (n, p)) (Err (m, q)) = sym (refused_to k well flow defs form lines n p i) ∙ refused_to k well flow defs form lines m q j in
    let pair : ◌≡◌ {A = ℕ × ℕ} (n, p) (m, q) = cc both in
    (ap (λ (x : ℕ × ℕ). x.0) pair, ap (λ (x : ℕ × ℕ). x.1) pair)

pub documents_are_decided : DocumentsAreDecided
documents_are_decided k well flow defs form lines = decide k well flow defs form lines (reading_document k well flow defs form lines) refl

pub read_is_not_refused : ReadIsNotRefused
read_is_not_refused k well flow defs form lines last n p e i =
    let both : ◌≡◌ {A = Result Reading (ℕ × ℕ)} (Ok last) (Err (n, p)) = sym e ∙ refused_to k well flow defs form lines n p i in
    cc both

pub refused_is_never_valid : Right → RefusedIsNeverValid
refused_is_never_valid right k well flow defs lines more n p valid judge i v =
    let ends = (certificates_are_read right k well flow defs (lines ++ more) valid judge).1 v in
    let written : lines ++ more ≡ i.before ++ i.line ∷ (i.later ++ more) =
    ap (λ (ls : List Line). ls ++ more) i.spelled ∙ append_twice i.before (i.line ∷ i.later) more in
    let wrong = refused_behind k well flow defs i.before (i.later ++ more) i.line (begun Certificate) i.reading 2 n p i.numbered i.read i.unmet in
    let both : ◌≡◌ {A = Result Reading (ℕ × ℕ)} (Ok ends.last) (Err (n, p)) =
    sym ends.read ∙ ap (λ (ls : List Line). reading_lines k well flow defs 2 ls (begun Certificate)) written ∙ wrong in
    cc both
