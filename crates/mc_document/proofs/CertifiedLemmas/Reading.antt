-- Lines that are read one after the other.
use Rattle.std.proofs.Common.{◌≡◌, ◌<◌, ◌≤◌, ◌+◌, ℕ, zero, suc, List, [], ◌∷◌, ◌++◌, Bool, true, false, length, drop, get_or, refl, sym, ◌∙◌, ap, subst, append_assoc, add-one, arith}
use Rattle.std.proofs.Math.Seq.{drop-cons}
use Rattle.std.specs.Prelude.{◌↔◌, Result, Ok, Err}
use Rattle.mc_lines.specs.declared.cert.line.Line.{Line}
use Rattle.mc_lines.specs.declared.cert.line.Line.TheVariants.{Header}
use Rattle.mc_flow.specs.declared.defs.rules.Def.{Def}
use Rattle.mc_flow.specs.declared.graph.Flow.{Flow}
use Rattle.mc_flow.specs.Valid.{IsValid}
use Rattle.mc_kernel.specs.Oracle.Judges.{JudgesAreThere}
use Rattle.mc_kernel.specs.Branches.{Path}
use Rattle.mc_kernel.specs.Certificates.{IsValidCertificate}
use Rattle.mc_kernel.specs.Judges.{Knowledge}
use Rattle.mc_kernel.specs.Readings.{Reading, begun, behind, finished, reading_line}
use Rattle.mc_state.specs.Premises.{Judged}
use Rattle.mc_document.specs.declared.proof.fault.ApplyFault.{ApplyFault}
use Rattle.mc_document.specs.declared.proof.fault.ApplyFault.TheVariants.{Premise}
use Rattle.mc_document.specs.Places.{AreInPlace, FitsSides, IsCertificateInPlace, may_stand}
use Rattle.mc_document.proofs.PlacesLemmas.{placed_more, placed_there}
use Rattle.mc_document.specs.Proof.Positions.{Applies, IsApplied, IsRefusedHere, Position, Stands, position_of}
use Rattle.mc_kernel.specs.Reading.Documents.{Ends, IsJudge, IsKept, reading_document}
use Rattle.mc_kernel.specs.Reading.Laws.{BegunIsKept, CertificatesAreRead, CertificatesStickNowhere, LinesAreAdded, LinesKeep, RefusedIsNeverValid}
use Rattle.mc_state.specs.declared.line.Form.TheVariants.{Certificate}
use Rattle.mc_state.specs.declared.line.Version.TheVariants.{One}
use Rattle.mc_state.specs.declared.raw_state.RawState.{RawState}

-- a judge reads the lines after a certificate's header, and the document then stands here
pub record IsReadTo (k : Knowledge) (well : RawState → Bool) (flow : Flow) (defs : List Def) (lines : List Line)
    (p : Position) : Type 0 where
  pub last : Reading
  pub read : reading_document k well flow defs Certificate lines ≡ Ok last
  pub kept : IsKept flow defs last
  pub here : position_of flow defs last ≡ p

-- the lines up to the rest are read so by every right judge, each where it may stand
pub record AreRead (flow : Flow) (defs : List Def) (lines rest : List Line) (p : Position) : Type 0 where
  pub before : List Line
  pub are : lines ≡ before ++ rest
  pub read : (k : Knowledge) (well : RawState → Bool) → IsJudge k well flow defs → IsReadTo k well flow defs before p
  pub placed : (k : Knowledge) (well : RawState → Bool) → IsJudge k well flow defs → AreInPlace k well flow defs before (begun Certificate)

abbrev pub IsWhole : Flow → List Def → List Line → Type 0
IsWhole flow defs lines = IsValidCertificate flow defs (Header One Certificate ∷ lines)

-- a whole document whose lines stand where they may
abbrev pub IsWholeInPlace : Flow → List Def → List Line → Type 0
IsWholeInPlace flow defs lines = IsCertificateInPlace flow defs (Header One Certificate ∷ lines)

-- the lines after a header are one
same_behind : (lines own : List Line) → ◌≡◌ {A = List Line} (Header One Certificate ∷ lines) (Header One Certificate ∷ own) → own ≡ lines
same_behind lines own e = cc e

append_none : (lines : List Line) → lines ++ [] ≡ lines
append_none [] = refl
append_none (l ∷ lines) = ap (λ (ls : List Line). l ∷ ls) (append_none lines)

-- the line at a number, with those after it
pub rest_at : (lines : List Line) (i : ℕ) (l : Line) → i < length lines → l ≡ get_or lines i l → drop i lines ≡ l ∷ drop (i + 1) lines
rest_at lines i l within is =
    drop-cons lines i l within ∙ ap (λ (x : Line). x ∷ drop (suc i) lines) (sym is) ∙ ap (λ (n : ℕ). l ∷ drop n lines) (sym (add-one i))

drop_none : (i : ℕ) → drop {A = Line} i [] ≡ []
drop_none zero = refl
drop_none (suc i) = refl

-- after the last line there is none
pub none_behind : (lines : List Line) (i : ℕ) → length lines ≤ i → drop i lines ≡ []
none_behind [] i e = drop_none i
none_behind (l ∷ lines) zero e = absurd (omega arith)
none_behind (l ∷ lines) (suc i) e = none_behind lines i (omega arith)

same_reading : (r last : Reading) → ◌≡◌ {A = Result Reading (ℕ × ℕ)} (Ok r) (Ok last) → r ≡ last
same_reading r last e = cc e

-- what holds of a flow graph and definitions holds of equal ones
move : (P : Flow → List Def → Type 0) (f g : Flow) (d e : List Def) → f ≡ g → d ≡ e → P f d → P g e
move P f g d e p q x = subst (λ (ds : List Def). P g ds) q (subst (λ (h : Flow). P h d) p x)

module _ (flow : Flow) (defs : List Def) where
  pub begun_read : BegunIsKept → (lines : List Line) (p : Position) → p ≡ position_of flow defs (begun Certificate)
      → AreRead flow defs lines lines p
  begun_read kept lines p e = record {
    before = [];
    are = refl;
    read = λ k well judge. record { last = begun Certificate; read = refl; kept = kept flow defs Certificate; here = sym e };
    placed = λ k well judge. tt;
  }

  module _ (k : Knowledge) (well : RawState → Bool) (judge : IsJudge k well flow defs) where
    -- a document that is read to a position stands there
    record StandsFor (lines : List Line) (p : Position) : Type 0 where
      pub last : Reading
      pub read : reading_document k well flow defs Certificate lines ≡ Ok last
      pub kept : IsKept flow defs last
      pub here : position_of flow defs last ≡ p
      pub flows : flow ≡ p.flow
      pub all : defs ≡ p.defs
      pub stands : Stands k well last p

    stands_for : (lines : List Line) (p : Position) → IsReadTo k well flow defs lines p → StandsFor lines p
    stands_for lines p i =
        let flows : flow ≡ p.flow = ap (λ (q : Position). q.flow) i.here in
        let all : defs ≡ p.defs = ap (λ (q : Position). q.defs) i.here in
        record {
          last = i.last;
          read = i.read;
          kept = i.kept;
          here = i.here;
          flows = flows;
          all = all;
          stands = record {
            judge = move (λ (f : Flow) (d : List Def). IsJudge k well f d) flow p.flow defs p.defs flows all judge;
            kept = move (λ (f : Flow) (d : List Def). IsKept f d i.last) flow p.flow defs p.defs flows all i.kept;
            here = move (λ (f : Flow) (d : List Def). position_of f d i.last ≡ p) flow p.flow defs p.defs flows all i.here;
          };
        }

    -- one line more
    more_read : LinesAreAdded → LinesKeep → IsValid flow defs → (lines : List Line) (l : Line) (old new : Position)
        → IsApplied l old new → IsReadTo k well flow defs lines old → IsReadTo k well flow defs (lines ++ l ∷ []) new
    more_read added keep valid lines l old new applied i =
        let s = stands_for lines old i in
        let a = applied k well s.last s.stands in
        let read : reading_line k well flow defs l s.last ≡ Ok a.0 =
        move (λ (f : Flow) (d : List Def). reading_line k well f d l s.last ≡ Ok a.0) old.flow flow old.defs defs (sym s.flows) (sym s.all) a.1 in
        record {
          last = a.0;
          read = added k well flow defs Certificate lines l s.last s.read
              ∙ ap (λ (r : Judged Reading). behind (2 + length lines) r (λ new. Ok new)) read;
          kept = keep k well flow defs l s.last a.0 valid judge s.kept read;
          here = move (λ (f : Flow) (d : List Def). position_of f d a.0 ≡ new) old.flow flow old.defs defs (sym s.flows) (sym s.all) a.2;
        }

    -- and one that is refused
    not_read : RefusedIsNeverValid → IsValid flow defs → (lines later : List Line) (l : Line) (p : Position) (premise : ℕ)
        → IsRefusedHere l p premise → IsReadTo k well flow defs lines p → IsWhole flow defs (lines ++ l ∷ later) → ⊥
    not_read never valid lines later l p premise bad i whole =
        let s = stands_for lines p i in
        let all = lines ++ l ∷ later in
        never k well flow defs all [] (2 + length lines) premise valid judge (record {
          before = lines;
          line = l;
          later = later;
          spelled = refl;
          numbered = refl;
          reading = s.last;
          read = s.read;
          unmet = move (λ (f : Flow) (d : List Def). reading_line k well f d l s.last ≡ Err premise) p.flow flow p.defs defs (sym s.flows) (sym s.all)
              (bad k well s.last s.stands);
        }) (subst (λ (ls : List Line). IsWhole flow defs ls) (sym (append_none all)) whole)

    -- a document that has ended
    ended_whole : CertificatesAreRead → CertificatesStickNowhere → IsValid flow defs → (lines : List Line) (p : Position)
        → IsReadTo k well flow defs lines p → p.stage ≡ finished → IsWhole flow defs lines
    ended_whole certificates none valid lines p i e =
        let ended : i.last.stage ≡ finished = ap (λ (q : Position). q.stage) i.here ∙ e in
        let ends : Ends k well flow defs Certificate lines i.last.stuck = record { last = i.last; read = i.read; ended = ended; stuck_are = refl } in
        (certificates k well flow defs lines valid judge).0
        (subst (λ (stuck : List Path). Ends k well flow defs Certificate lines stuck) (none k well flow defs lines i.last.stuck valid judge ends) ends)

    -- and one that has not
    open_not_whole : CertificatesAreRead → IsValid flow defs → (lines : List Line) (p : Position)
        → IsReadTo k well flow defs lines p → (p.stage ≡ finished → ⊥) → IsWhole flow defs lines → ⊥
    open_not_whole certificates valid lines p i still whole =
        let ends = (certificates k well flow defs lines valid judge).1 whole in
        let same : ends.last ≡ i.last = same_reading ends.last i.last (sym ends.read ∙ i.read) in
        still (ap (λ (q : Position). q.stage) (sym i.here) ∙ ap (λ (r : Reading). r.stage) (sym same) ∙ ends.ended)

  -- ---- of all right judges

  pub applied_read : LinesAreAdded → LinesKeep → IsValid flow defs → (lines : List Line) (i : ℕ) (l : Line) (old new : Position)
      → i < length lines → l ≡ get_or lines i l → may_stand l old.branches ≡ true → IsApplied l old new → AreRead flow defs lines (drop i lines) old
      → AreRead flow defs lines (drop (i + 1) lines) new
  applied_read added keep valid lines i l old new within is may applied a = record {
    before = a.before ++ l ∷ [];
    are = a.are ∙ ap (λ (ls : List Line). a.before ++ ls) (rest_at lines i l within is) ∙ sym (append_assoc a.before (l ∷ []) (drop (i + 1) lines));
    read = λ k well judge. more_read k well judge added keep valid a.before l old new applied (a.read k well judge);
    placed = λ k well judge.
        let r = a.read k well judge in
        placed_more k well flow defs 2 a.before l (begun Certificate) r.last r.read (a.placed k well judge)
        (subst (λ (bs : List Path). may_stand l bs ≡ true) (sym (ap (λ (q : Position). q.branches) r.here)) may);
  }

  refused_not_whole : JudgesAreThere → RefusedIsNeverValid → IsValid flow defs → (lines : List Line) (i : ℕ) (l : Line) (p : Position) (premise : ℕ)
      → i < length lines → l ≡ get_or lines i l → IsRefusedHere l p premise → AreRead flow defs lines (drop i lines) p
      → IsWhole flow defs lines → ⊥
  refused_not_whole there never valid lines i l p premise within is bad a whole =
      let j = there flow defs valid in
      let are : lines ≡ a.before ++ l ∷ drop (i + 1) lines = a.are ∙ ap (λ (ls : List Line). a.before ++ ls) (rest_at lines i l within is) in
      not_read j.0 j.1 j.2 never valid a.before (drop (i + 1) lines) l p premise bad (a.read j.0 j.1 j.2)
      (subst (λ (ls : List Line). IsWhole flow defs ls) are whole)

  all_read : (lines : List Line) (i : ℕ) (p : Position) → length lines ≤ i → (a : AreRead flow defs lines (drop i lines) p) → lines ≡ a.before
  all_read lines i p e a = a.are ∙ ap (λ (ls : List Line). a.before ++ ls) (none_behind lines i e) ∙ append_none a.before

  finished_whole : JudgesAreThere → CertificatesAreRead → CertificatesStickNowhere → IsValid flow defs → (lines : List Line) (i : ℕ) (p : Position)
      → length lines ≤ i → AreRead flow defs lines (drop i lines) p → p.stage ≡ finished → IsWhole flow defs lines
  finished_whole there certificates none valid lines i p e a ended =
      let j = there flow defs valid in
      subst (λ (ls : List Line). IsWhole flow defs ls) (sym (all_read lines i p e a))
      (ended_whole j.0 j.1 j.2 certificates none valid a.before p (a.read j.0 j.1 j.2) ended)

  unfinished_not_whole : JudgesAreThere → CertificatesAreRead → IsValid flow defs → (lines : List Line) (i : ℕ) (p : Position)
      → length lines ≤ i → AreRead flow defs lines (drop i lines) p → (p.stage ≡ finished → ⊥) → IsWhole flow defs lines → ⊥
  unfinished_not_whole there certificates valid lines i p e a still whole =
      let j = there flow defs valid in
      open_not_whole j.0 j.1 j.2 certificates valid a.before p (a.read j.0 j.1 j.2) still
      (subst (λ (ls : List Line). IsWhole flow defs ls) (all_read lines i p e a) whole)

  -- a document whose lines are all read has ended exactly where it is a valid certificate
  pub ended_is_whole : JudgesAreThere → CertificatesAreRead → CertificatesStickNowhere → IsValid flow defs → (lines : List Line) (i : ℕ)
      (p : Position) (ended : Bool) → length lines ≤ i → AreRead flow defs lines (drop i lines) p → (ended ≡ true) ↔ (p.stage ≡ finished)
      → (ended ≡ true) ↔ IsWholeInPlace flow defs lines
  ended_is_whole there certificates none valid lines i p true e a is = (
    λ yes. (
      finished_whole there certificates none valid lines i p e a (is.0 yes),
      record {
        behind = lines;
        spelled = refl;
        in_place = λ k well judge.
            subst (λ (ls : List Line). AreInPlace k well flow defs ls (begun Certificate)) (sym (all_read lines i p e a)) (a.placed k well judge);
      },
    ),
    λ whole. refl,
  )
  ended_is_whole there certificates none valid lines i p false e a is = (
    λ yes. absurd (cc yes),
    λ whole. absurd (unfinished_not_whole there certificates valid lines i p e a (λ done. let yes : false ≡ true = is.1 done in cc yes) whole.0),
  )

  -- and one that is refused is none
  pub refused_is_not_whole : JudgesAreThere → RefusedIsNeverValid → IsValid flow defs → (lines : List Line) (i : ℕ) (l : Line) (p new : Position)
      (fault : ApplyFault) (premise : ℕ) → i < length lines → l ≡ get_or lines i l → AreRead flow defs lines (drop i lines) p
      → fault ≡ Premise premise → Applies l p new (Err fault) → (false ≡ true) ↔ IsWholeInPlace flow defs lines
  refused_is_not_whole there never valid lines i l p new fault premise within is a e applies =
      let refused = subst (λ (f : ApplyFault). Applies l p new (Err f)) e applies in
      (λ yes. absurd (cc yes), λ whole. absurd (refused_not_whole there never valid lines i l p premise within is refused.0 a whole.0))

  -- so is one with a line that may not stand where it is read
  pub misplaced_is_not_whole : JudgesAreThere → IsValid flow defs → (lines : List Line) (i : ℕ) (l : Line) (p : Position)
      → i < length lines → l ≡ get_or lines i l → AreRead flow defs lines (drop i lines) p → may_stand l p.branches ≡ false
      → (false ≡ true) ↔ IsWholeInPlace flow defs lines
  misplaced_is_not_whole there valid lines i l p within is a misplaced = (λ yes. absurd (cc yes), λ whole. absurd (never whole.1))
    where
      never : FitsSides flow defs Certificate (Header One Certificate ∷ lines) → ⊥
      never sides =
          let j = there flow defs valid in
          let r = a.read j.0 j.1 j.2 in
          let later = drop (i + 1) lines in
          let are : lines ≡ a.before ++ l ∷ later = a.are ∙ ap (λ (ls : List Line). a.before ++ ls) (rest_at lines i l within is) in
          let placed : AreInPlace j.0 j.1 flow defs (a.before ++ l ∷ later) (begun Certificate) =
          subst (λ (ls : List Line). AreInPlace j.0 j.1 flow defs ls (begun Certificate)) (same_behind lines sides.behind sides.spelled ∙ are) (sides.in_place j.0 j.1 j.2) in
          let may : may_stand l r.last.branches ≡ true = placed_there j.0 j.1 flow defs 2 a.before later l (begun Certificate) r.last r.read placed in
          let here : may_stand l r.last.branches ≡ may_stand l p.branches = ap (λ (q : Position). may_stand l q.branches) r.here in
          let clash : false ≡ true = sym misplaced ∙ sym here ∙ may in
          cc clash
