-- Where a judge of documents stands by one line more.
use Rattle.std.proofs.Common.{◌≡◌, ◌≢◌, ℕ, suc, List, [], ◌∷◌, ◌++◌, length, refl, sym, ◌∙◌, ap, subst}
use Rattle.std.specs.Prelude.{Err}
use Rattle.std.specs.Borrow.{Bor}
use Rattle.mc_lines.specs.declared.cert.line.Line.{Line}
use Rattle.mc_lines.specs.declared.cert.line.Line.TheVariants.{Header}
use Rattle.mc_lines.specs.Cert.Document.{Spells}
use Rattle.mc_lines.specs.Cert.Lines.{lines_of}
use Rattle.mc_flow.specs.declared.defs.rules.Def.{Def}
use Rattle.mc_flow.specs.declared.graph.Flow.{Flow}
use Rattle.mc_state.specs.declared.line.Form.{Form}
use Rattle.mc_state.specs.declared.line.Form.TheVariants.{Certificate, Chain}
use Rattle.mc_state.specs.declared.line.Version.TheVariants.{One}
use Rattle.mc_kernel.specs.Readings as certificates
use Rattle.mc_document.specs.declared.proof.fault.ApplyFault.{ApplyFault}
use Rattle.mc_document.specs.declared.proof.fault.ApplyFault.TheVariants as apply
use Rattle.mc_document.specs.declared.proof.fault.ApplyFault.TheVariants.{Premise}
use Rattle.mc_joins.specs.Chains.Judges as chains
use Rattle.mc_joins.specs.Chains.Judges.{Lore}
use Rattle.mc_joins.specs.Chains.Laws.{IsRight}
use Rattle.mc_judge.specs.declared.judge.open.OpenDocument.{OpenDocument}
use Rattle.mc_judge.specs.declared.judge.stage.Stage.{Stage}
use Rattle.mc_judge.specs.declared.judge.stage.Stage.TheVariants.{Unbegun, Open, Ended, Refused, Spent}
use Rattle.mc_judge.specs.declared.judge.verdict.Refusal.{Refusal}
use Rattle.mc_judge.specs.declared.judge.verdict.Refusal.TheVariants as refusal
use Rattle.mc_judge.specs.Documents.{Document, IsEnded, IsTaken, StandsFor, Takes, begun}
use Rattle.mc_judge.specs.Judge.Cuts.{IsCut}
use Rattle.mc_judge.specs.Judge.Stages.{Holds, IsAt, Leads}
use Rattle.mc_judge.specs.Judge.Verdicts.{IsNamed, IsReading, IsRefusal}
use Rattle.mc_judge.proofs.JudgeLemmas.Documents.{header_reads, more_reads, refusal_more, refused_end, unmet_behind}
use Rattle.mc_judge.proofs.JudgeLemmas.Growing.{lines_closed, lines_first, lines_open}

-- what holds of a flow graph and definitions holds of equal ones
pub move : (P : Flow → List Def → Type 0) (f g : Flow) (d e : List Def) → f ≡ g → d ≡ e → P f d → P g e
move P f g d e p q x = subst (λ (ds : List Def). P g ds) q (subst (λ (h : Flow). P h d) p x)

pub holds_more : (stage : Stage) (rest held bytes : List ℕ) → Holds stage rest held → Holds stage (rest ++ bytes) (held ++ bytes)
holds_more Unbegun rest held bytes h = ap (λ (bs : List ℕ). bs ++ bytes) h
holds_more (Open p) rest held bytes h = ap (λ (bs : List ℕ). bs ++ bytes) h
holds_more (Ended verdict) rest held bytes h = ap (λ (bs : List ℕ). bs ++ bytes) h
holds_more (Refused cause) rest held bytes h = tt
holds_more Spent rest held bytes h = absurd h

-- after a whole line nothing is held
pub holds_nothing : (stage : Stage) → stage ≢ Spent → Holds stage [] []
holds_nothing Unbegun ne = refl
holds_nothing (Open p) ne = refl
holds_nothing (Ended verdict) ne = refl
holds_nothing (Refused cause) ne = tt
holds_nothing Spent ne = absurd (ne refl)

-- a document that is begun has not ended
begun_open : (form : Form) → IsEnded (begun form) → ⊥
begun_open Certificate e = let clash : certificates.cutting ≡ certificates.finished = e in cc clash
begun_open Chain e = let clash : chains.cutting ≡ chains.finished = e in cc clash

module _ (k : Lore) (flow : Flow) (defs : List Def) where
  -- a document that is read so far, at a position
  pub record IsOpenAt (texts : List (List ℕ)) (p : OpenDocument) : Type 0 where
    pub next : Document
    pub reading : IsReading k flow defs texts next
    pub stands : StandsFor k flow defs next p

  pub begun_at : (bytes : List ℕ) (form : Form) (p : OpenDocument) → Spells bytes (Header One form)
      → StandsFor k flow defs (begun form) p → IsAt k flow defs (bytes ∷ []) (Open p)
  begun_at bytes form p one stands = (begun form, header_reads k flow defs bytes form one, begun_open form, stands)

  -- a line that is taken
  pub taken_more : (texts : List (List ℕ)) (bytes : List ℕ) (l : Line) (old new : OpenDocument) (d : Document)
      → IsReading k flow defs texts d → StandsFor k flow defs d old → Spells bytes l → IsTaken l old new
      → IsOpenAt (texts ++ bytes ∷ []) new
  taken_more texts bytes l old new d i stands one taken =
      let a = taken k flow defs d stands in
      record { next = a.0; reading = more_reads k flow defs texts bytes l d a.0 i one a.1; stands = a.2 }

  -- where it stands by a line that is not taken
  pub not_taken : (texts : List (List ℕ)) (bytes : List ℕ) (l : Line) (old new : OpenDocument) (d : Document) (number : ℕ)
      (name : Bor (List ℕ)) (fault : ApplyFault) (result : Stage) → number ≡ suc (length texts) → IsReading k flow defs texts d
      → (IsEnded d → ⊥) → StandsFor k flow defs d old → Spells bytes l → IsNamed l name.now → Takes l old new (Err fault)
      → ((premise : ℕ) → fault ≡ Premise premise → result ≡ Refused (refusal.Rule number name premise))
      → (fault ≡ apply.NoMemory → result ≡ Spent) → IsAt k flow defs (texts ++ bytes ∷ []) result
  not_taken texts bytes l old new d number name (Premise premise) result count i still stands one named refused refuses spends =
      subst (λ (s : Stage). IsAt k flow defs (texts ++ bytes ∷ []) s) (sym (refuses premise refl))
      (refused_end k flow defs texts bytes (refusal.Rule number name premise) (
        count,
        (l, one, named, unmet_behind k flow defs texts d l premise i still (refused k flow defs d stands)),
      ))
  not_taken texts bytes l old new d number name apply.NoMemory result count i still stands one named refused refuses spends =
      subst (λ (s : Stage). IsAt k flow defs (texts ++ bytes ∷ []) s) (sym (spends refl)) tt

  -- the open line is whole: what was held of it leads on
  pub line_at : (texts : List (List ℕ)) (line held : List ℕ) (old new : Stage) → IsRight k flow defs → Holds old line held
      → Leads flow defs held texts old new → ((cause : Refusal) → old ≡ Refused cause → new ≡ Refused cause)
      → IsAt k flow defs texts old → IsAt k flow defs (texts ++ line ∷ []) new
  line_at texts line held Unbegun new judge h leads stays at =
      subst (λ (l : List ℕ). IsAt k flow defs (texts ++ l ∷ []) new) h (leads k judge at)
  line_at texts line held (Open p) new judge h leads stays at =
      subst (λ (l : List ℕ). IsAt k flow defs (texts ++ l ∷ []) new) h (leads k judge at)
  line_at texts line held (Ended verdict) new judge h leads stays at =
      subst (λ (l : List ℕ). IsAt k flow defs (texts ++ l ∷ []) new) h (leads k judge at)
  line_at texts line held (Refused cause) new judge h leads stays at =
      subst (λ (s : Stage). IsAt k flow defs (texts ++ line ∷ []) s) (sym (stays cause refl)) (refusal_more k flow defs texts (line ∷ []) cause at)
  line_at texts line held Spent new judge h leads stays at = absurd h

  -- at the end of a text nothing is held
  pub at_end : (text : List ℕ) (texts : List (List ℕ)) (rest : List ℕ) (stage : Stage) → IsCut text texts rest → Holds stage rest []
      → IsAt k flow defs texts stage → IsAt k flow defs (lines_of text) stage
  at_end text texts rest Unbegun cut h at =
      subst (λ (ts : List (List ℕ)). IsAt k flow defs ts Unbegun) (sym (lines_closed text texts rest cut (sym h))) at
  at_end text texts rest (Open p) cut h at =
      subst (λ (ts : List (List ℕ)). IsAt k flow defs ts (Open p)) (sym (lines_closed text texts rest cut (sym h))) at
  at_end text texts rest (Ended verdict) cut h at =
      subst (λ (ts : List (List ℕ)). IsAt k flow defs ts (Ended verdict)) (sym (lines_closed text texts rest cut (sym h))) at
  at_end text texts rest (Refused cause) cut h at =
      subst (λ (ts : List (List ℕ)). IsRefusal k flow defs ts cause) (sym (lines_first text texts rest cut))
      (refusal_more k flow defs texts (lines_of rest) cause at)
  at_end text texts rest Spent cut h at = absurd h

  last_line : (text : List ℕ) (texts : List (List ℕ)) (rest held : List ℕ) (last : Stage) → IsCut text texts rest → held ≡ rest → held ≢ []
      → IsAt k flow defs (texts ++ rest ∷ []) last → IsAt k flow defs (lines_of text) last
  last_line text texts rest held last cut h some at =
      subst (λ (ts : List (List ℕ)). IsAt k flow defs ts last) (sym (lines_open text texts rest cut (λ e. some (h ∙ e)))) at

  -- or what is held is its last line
  pub at_end_open : (text : List ℕ) (texts : List (List ℕ)) (rest held : List ℕ) (stage last : Stage) → IsRight k flow defs
      → IsCut text texts rest → Holds stage rest held → held ≢ [] → Leads flow defs held texts stage last
      → ((cause : Refusal) → stage ≡ Refused cause → last ≡ Refused cause)
      → IsAt k flow defs texts stage → IsAt k flow defs (lines_of text) last
  at_end_open text texts rest held Unbegun last judge cut h some leads stays at =
      last_line text texts rest held last cut h some (line_at texts rest held Unbegun last judge h leads stays at)
  at_end_open text texts rest held (Open p) last judge cut h some leads stays at =
      last_line text texts rest held last cut h some (line_at texts rest held (Open p) last judge h leads stays at)
  at_end_open text texts rest held (Ended verdict) last judge cut h some leads stays at =
      last_line text texts rest held last cut h some (line_at texts rest held (Ended verdict) last judge h leads stays at)
  at_end_open text texts rest held (Refused cause) last judge cut h some leads stays at =
      subst (λ (s : Stage). IsAt k flow defs (lines_of text) s) (sym (stays cause refl)) (at_end text texts rest (Refused cause) cut tt at)
  at_end_open text texts rest held Spent last judge cut h some leads stays at = absurd h
