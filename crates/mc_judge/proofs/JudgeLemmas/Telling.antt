-- Verdicts on texts, without a judge.
use Rattle.std.proofs.Common.{◌≡◌, ◌≢◌, inl, inr, ℕ, List, [], ◌∷◌, Bool, true, false, length, refl, sym, ◌∙◌, ap, subst}
use Rattle.std.specs.Prelude.{◌↔◌, Result, Ok, Err, IfOk, if◌then◌else◌}
use Rattle.std.specs.declared.alloc.AllocError.{AllocError}
use Rattle.mc_lines.specs.declared.cert.line.Line.{Line}
use Rattle.mc_lines.specs.declared.cert.line.Line.TheVariants.{Header}
use Rattle.mc_lines.specs.Cert.Lines.{lines_of}
use Rattle.mc_flow.specs.declared.defs.rules.Def.{Def}
use Rattle.mc_flow.specs.declared.graph.Flow.{Flow}
use Rattle.mc_flow.specs.Valid.{IsValid}
use Rattle.mc_state.specs.Known.{Test}
use Rattle.mc_state.specs.State.{State}
use Rattle.mc_state.specs.declared.line.Form.{Form}
use Rattle.mc_state.specs.declared.line.Form.TheVariants.{Certificate, Chain}
use Rattle.mc_state.specs.declared.line.Version.TheVariants.{One}
use Rattle.mc_kernel.specs.Branches.{Path}
use Rattle.mc_kernel.specs.Certificates.{IsValidCertificate}
use Rattle.mc_kernel.specs.Readings as certificates
use Rattle.mc_kernel.specs.Reading.Documents.{Ends}
use Rattle.mc_kernel.specs.Reading.Laws.{CertificatesAreRead, CertificatesStickNowhere}
use Rattle.mc_joins.specs.Chains.Chains.{HasAlarms, HasNoAlarm, IsUnfinished, KnowsStates}
use Rattle.mc_joins.specs.Chains.Judges as chains
use Rattle.mc_joins.specs.Chains.Judges.{Lore, verdict_at, verdict_by, verdict_of}
use Rattle.mc_joins.specs.Chains.Laws.{IsRight}
use Rattle.mc_joins.specs.Chains.Read.{IsSaid}
use Rattle.mc_joins.specs.Chains.ReadLaws.{AlarmsAreSaid, LegalChainsAreOne, NoAlarmIsSaid, UnfinishedIsSaid}
use Rattle.mc_judge.specs.declared.judge.verdict.Refusal.{Refusal}
use Rattle.mc_judge.specs.declared.judge.verdict.Refusal.TheVariants as refusal
use Rattle.mc_judge.specs.declared.judge.verdict.Verdict.{Verdict}
use Rattle.mc_judge.specs.declared.judge.verdict.Verdict.TheVariants.{Safe, Alarms, Refused}
use Rattle.mc_judge.specs.Documents.{Document, certificate, chain, IsEnded, read_document}
use Rattle.mc_judge.specs.Judge.Verdicts.{GoesOn, IsCertificate, IsReading, IsRefusal, IsVerdict, SpellAll, SpellsAlarms, SpellsNoAlarm, SpellsUnfinished, Tells, said_of, verdict_on}
use Rattle.mc_judge.proofs.JudgeLemmas.Documents.{AreRead, Once, not_refused, same_document}
use Rattle.mc_judge.proofs.JudgeLemmas.Reads.{certificates_are_read, chains_are_read, from_read}

-- ---- what is said of documents

-- no chain is safe
chain_unsafe : (v : chains.Verdict) → verdict_on v ≢ Safe
chain_unsafe (chains.alarms count) e = cc e
chain_unsafe chains.no_alarm e = cc e
chain_unsafe chains.unfinished e = cc e
chain_unsafe chains.ends_early e = cc e

-- what is said of a chain is said as one verdict
said_once : (v w : chains.Verdict) → verdict_on v ≡ verdict_on w → v ≡ w
said_once (chains.alarms n) (chains.alarms m) e = let same : n ≡ m = cc e in ap (λ (x : ℕ). chains.alarms x) same
said_once (chains.alarms n) chains.no_alarm e = absurd (cc e)
said_once (chains.alarms n) chains.unfinished e = absurd (cc e)
said_once (chains.alarms n) chains.ends_early e = absurd (cc e)
said_once chains.no_alarm (chains.alarms m) e = absurd (cc e)
said_once chains.no_alarm chains.no_alarm e = refl
said_once chains.no_alarm chains.unfinished e = absurd (cc e)
said_once chains.no_alarm chains.ends_early e = absurd (cc e)
said_once chains.unfinished (chains.alarms m) e = absurd (cc e)
said_once chains.unfinished chains.no_alarm e = absurd (cc e)
said_once chains.unfinished chains.unfinished e = refl
said_once chains.unfinished chains.ends_early e = absurd (cc e)
said_once chains.ends_early (chains.alarms m) e = absurd (cc e)
said_once chains.ends_early chains.no_alarm e = absurd (cc e)
said_once chains.ends_early chains.unfinished e = absurd (cc e)
said_once chains.ends_early chains.ends_early e = refl

-- what is said of a chain that has not ended is that it ends early
ended_by : (stage : chains.Stage) (r : chains.Reading) → verdict_at stage r ≢ chains.ends_early → stage ≡ chains.finished
ended_by chains.cutting r ne = absurd (ne refl)
ended_by chains.heading r ne = absurd (ne refl)
ended_by chains.passing r ne = absurd (ne refl)
ended_by chains.finished r ne = refl

-- and of one that has that it does not
by_stuck : (stuck : List Path) → verdict_by stuck ≢ chains.ends_early
by_stuck [] e = cc e
by_stuck (b ∷ stuck) e = cc e

by_change : (changed : Bool) (stuck : List Path) → (if changed then chains.unfinished else verdict_by stuck) ≢ chains.ends_early
by_change true stuck e = cc e
by_change false stuck e = by_stuck stuck e

ended_late : (r : chains.Reading) → r.stage ≡ chains.finished → verdict_of r ≢ chains.ends_early
ended_late r e f = by_change r.changed r.stuck (ap (λ (s : chains.Stage). verdict_at s r) (sym e) ∙ f)

-- ---- documents that have ended

pub record Laws : Type 0 where
  pub once : Once
  pub are_read : AreRead
  pub certificates : CertificatesAreRead
  pub no_stuck : CertificatesStickNowhere
  pub alarms : AlarmsAreSaid
  pub no_alarm : NoAlarmIsSaid
  pub unfinished : UnfinishedIsSaid
  pub one : LegalChainsAreOne

module _ (laws : Laws) (k : Lore) (flow : Flow) (defs : List Def) (valid : IsValid flow defs) (right : IsRight k flow defs) where
  -- a document that has ended
  record HasEndedAs (texts : List (List ℕ)) (d : Document) : Type 0 where
    pub reading : IsReading k flow defs texts d
    pub ended : IsEnded d

  not_open : (texts : List (List ℕ)) (d : Document) → HasEndedAs texts d → GoesOn k flow defs texts → ⊥
  not_open [] d h on = h.reading.spelled
  not_open (t ∷ texts) d h on =
      let same : d ≡ on.0 = same_document k flow defs laws.once (t ∷ texts) d on.0 h.reading on.1 in
      on.2 (subst IsEnded same h.ended)

  -- the verdict on it
  ended_verdict : (texts : List (List ℕ)) (verdict : Verdict) (d : Document) → IsVerdict k flow defs texts verdict → HasEndedAs texts d
      → verdict ≡ said_of d
  ended_verdict texts verdict d is h = elim is [
    | inl e ↦ (let same : e.0 ≡ d = same_document k flow defs laws.once texts e.0 d e.1 h.reading in
        e.3 ∙ ap (λ (x : Document). said_of x) same)
    | inr other ↦ absurd (elim other [
      | inl on ↦ not_open texts d h on.0
      | inr bad ↦ not_refused k flow defs laws.once laws.are_read texts d bad.0 h.reading bad.1
    ])
  ]

  -- ---- certificates

  -- lines that end a certificate, and their texts
  ends_certificate : (texts : List (List ℕ)) (lines all : List Line) → SpellAll texts all → all ≡ Header One Certificate ∷ lines
      → Ends k.lines k.formed flow defs Certificate lines [] → (r : certificates.Reading) × HasEndedAs texts (certificate r)
  ends_certificate texts lines all spelled e ends = (
    ends.last,
    record {
      reading = record {
        form = Certificate;
        lines = lines;
        spelled = subst (λ (ls : List Line). SpellAll texts ls) e spelled;
        read = rw (certificates_are_read k flow defs 2 lines (certificates.begun Certificate)) (rw ends.read refl);
      };
      ended = ends.ended;
    },
  )

  safe_to : (text : List ℕ) (verdict : Verdict) → IsVerdict k flow defs (lines_of text) verdict → IsCertificate flow defs text → verdict ≡ Safe
  safe_to text verdict is c =
      let e = c.holds.spelled in
      let ends = ends_certificate (lines_of text) _ c.lines c.spelled e
      ((laws.certificates k.lines k.formed flow defs _ valid (record { asked = right.asked; formed = right.formed })).1
      (subst (λ (ls : List Line). IsValidCertificate flow defs ls) e c.holds)) in
      ended_verdict (lines_of text) verdict (certificate ends.0) is ends.1

  -- a document that is safe
  safe_document : (text : List ℕ) (form : Form) (lines : List Line) (d : Document) → SpellAll (lines_of text) (Header One form ∷ lines)
      → read_document k flow defs form lines ≡ Ok d → IsEnded d → said_of d ≡ Safe → IsCertificate flow defs text
  safe_document text Certificate lines d spelled read ended e =
      let r = from_read certificate (certificates.reading_lines k.lines k.formed flow defs 2 lines (certificates.begun Certificate)) d
      (sym (certificates_are_read k flow defs 2 lines (certificates.begun Certificate)) ∙ read) in
      let ends : Ends k.lines k.formed flow defs Certificate lines r.0.stuck =
      record { last = r.0; read = r.1; ended = subst IsEnded (sym r.2) ended; stuck_are = refl } in
      let none = laws.no_stuck k.lines k.formed flow defs lines r.0.stuck valid (record { asked = right.asked; formed = right.formed }) ends in
      record {
        lines = Header One Certificate ∷ lines;
        spelled = spelled;
        holds = (laws.certificates k.lines k.formed flow defs lines valid (record { asked = right.asked; formed = right.formed })).0
            (subst (λ (stuck : List Path). Ends k.lines k.formed flow defs Certificate lines stuck) none ends);
      }
  safe_document text Chain lines d spelled read ended e =
      let r = from_read chain (chains.reading_lines k flow defs 2 lines chains.begun_chain) d
      (sym (chains_are_read k flow defs 2 lines chains.begun_chain) ∙ read) in
      absurd (chain_unsafe (verdict_of r.0) (ap (λ (x : Document). said_of x) r.2 ∙ e))

  safe_from : (text : List ℕ) (verdict : Verdict) → IsVerdict k flow defs (lines_of text) verdict → verdict ≡ Safe → IsCertificate flow defs text
  safe_from text verdict is e = elim is [
    | inl h ↦ safe_document text h.1.form h.1.lines h.0 h.1.spelled h.1.read h.2 (sym h.3 ∙ e)
    | inr other ↦ absurd (elim other [
      | inl on ↦ (let clash : Safe ≡ Refused refusal.EndsEarly = sym e ∙ on.1 in cc clash)
      | inr bad ↦ (let clash : Safe ≡ Refused bad.0 = sym e ∙ bad.2 in cc clash)
    ])
  ]

  -- ---- chains

  -- the text spells a chain of which this is said
  record IsSaidOf (text : List ℕ) (v : chains.Verdict) : Type 0 where
    pub lines : List Line
    pub spelled : SpellAll (lines_of text) (Header One Chain ∷ lines)
    pub said : IsSaid k flow defs lines v

  said_document : (text : List ℕ) (v : chains.Verdict) (form : Form) (lines : List Line) (d : Document)
      → SpellAll (lines_of text) (Header One form ∷ lines) → read_document k flow defs form lines ≡ Ok d → said_of d ≡ verdict_on v
      → IsSaidOf text v
  said_document text v Certificate lines d spelled read e =
      let r = from_read certificate (certificates.reading_lines k.lines k.formed flow defs 2 lines (certificates.begun Certificate)) d
      (sym (certificates_are_read k flow defs 2 lines (certificates.begun Certificate)) ∙ read) in
      absurd (chain_unsafe v (sym (ap (λ (x : Document). said_of x) r.2 ∙ e)))
  said_document text v Chain lines d spelled read e =
      let r = from_read chain (chains.reading_lines k flow defs 2 lines chains.begun_chain) d
      (sym (chains_are_read k flow defs 2 lines chains.begun_chain) ∙ read) in
      record {
        lines = lines;
        spelled = spelled;
        said = record { last = r.0; read = r.1; says = said_once (verdict_of r.0) v (ap (λ (x : Document). said_of x) r.2 ∙ e) };
      }

  -- no line is refused for what a chain is as a whole
  whole_refused : (texts : List (List ℕ)) (v : chains.Verdict) (cause : Refusal) → IsRefusal k flow defs texts cause → v ≢ chains.ends_early
      → Refused cause ≢ verdict_on v
  whole_refused texts (chains.alarms count) cause bad late e = cc e
  whole_refused texts chains.no_alarm cause bad late e =
      let is : cause ≡ refusal.NoAlarm = cc e in
      let none = subst (λ (c : Refusal). IsRefusal k flow defs texts c) is bad in
      none.refused
  whole_refused texts chains.unfinished cause bad late e =
      let is : cause ≡ refusal.Unfinished = cc e in
      let none = subst (λ (c : Refusal). IsRefusal k flow defs texts c) is bad in
      none.refused
  whole_refused texts chains.ends_early cause bad late e = late refl

  said_from : (text : List ℕ) (verdict : Verdict) (v : chains.Verdict) → v ≢ chains.ends_early → IsVerdict k flow defs (lines_of text) verdict
      → verdict ≡ verdict_on v → IsSaidOf text v
  said_from text verdict v late is e = elim is [
    | inl h ↦ said_document text v h.1.form h.1.lines h.0 h.1.spelled h.1.read (sym h.3 ∙ e)
    | inr other ↦ absurd (elim other [
      | inl on ↦ late (sym (said_once chains.ends_early v (sym on.1 ∙ e)))
      | inr bad ↦ whole_refused (lines_of text) v bad.0 bad.1 late (sym bad.2 ∙ e)
    ])
  ]

  -- and back: where something holds of its lines exactly where so much is said of it
  said_to : (text : List ℕ) (verdict : Verdict) (v : chains.Verdict) (Held : List Line → Type 0) (lines all : List Line) → v ≢ chains.ends_early
      → SpellAll (lines_of text) all → all ≡ Header One Chain ∷ lines → IsSaid k flow defs lines v ↔ Held (Header One Chain ∷ lines) → Held all
      → IsVerdict k flow defs (lines_of text) verdict → verdict ≡ verdict_on v
  said_to text verdict v Held lines all late spelled e law held is =
      let said = law.1 (subst Held e held) in
      let ended : said.last.stage ≡ chains.finished = ended_by said.last.stage said.last (λ early. late (sym said.says ∙ early)) in
      ended_verdict (lines_of text) verdict (chain said.last) is (record {
        reading = record {
          form = Chain;
          lines = lines;
          spelled = subst (λ (ls : List Line). SpellAll (lines_of text) ls) e spelled;
          read = rw (chains_are_read k flow defs 2 lines chains.begun_chain) (rw said.read refl);
        };
        ended = ended;
      }) ∙ ap (λ (w : chains.Verdict). verdict_on w) said.says

  -- ---- by whatever tells what is entailed

  module _ (know other : State → Test) (knows : KnowsStates flow defs know) (too : KnowsStates flow defs other) (lines : List Line) where
    alarms_too : (count : ℕ) → HasAlarms know flow defs lines count → HasAlarms other flow defs lines count
    alarms_too count (c, final, counted, some) =
        let d = laws.one know other flow defs lines valid knows too c in (
          d.0,
          ap (λ (r : chains.Reading). r.changed) d.1 ∙ final,
          ap (λ (r : chains.Reading). length r.stuck) d.1 ∙ counted,
          some,
        )

    no_alarm_too : HasNoAlarm know flow defs lines → HasNoAlarm other flow defs lines
    no_alarm_too (c, final, none) =
        let d = laws.one know other flow defs lines valid knows too c in
        (d.0, ap (λ (r : chains.Reading). r.changed) d.1 ∙ final, ap (λ (r : chains.Reading). r.stuck) d.1 ∙ none)

    unfinished_too : IsUnfinished know flow defs lines → IsUnfinished other flow defs lines
    unfinished_too (c, changed) =
        let d = laws.one know other flow defs lines valid knows too c in
        (d.0, ap (λ (r : chains.Reading). r.changed) d.1 ∙ changed)

  module _ (text : List ℕ) (verdict : Verdict) (is : IsVerdict k flow defs (lines_of text) verdict) (know : State → Test)
      (knows : KnowsStates flow defs know) where
    alarms_are : (count : ℕ) → (verdict ≡ Alarms count) ↔ SpellsAlarms know flow defs text count
    alarms_are count = (
      λ e.
          let s = said_from text verdict (chains.alarms count) (λ early. cc early) is e in
          record {
            lines = Header One Chain ∷ s.lines;
            spelled = s.spelled;
            holds = alarms_too k.lines.know know right.knows knows (Header One Chain ∷ s.lines) count
                ((laws.alarms k flow defs s.lines count valid right).0 s.said);
          },
      λ s. said_to text verdict (chains.alarms count) (λ lines. HasAlarms k.lines.know flow defs lines count) _ s.lines (λ early. cc early)
          s.spelled s.holds.0.spelled (laws.alarms k flow defs _ count valid right)
          (alarms_too know k.lines.know knows right.knows s.lines count s.holds) is,
    )

    no_alarm_is : (verdict ≡ Refused refusal.NoAlarm) ↔ SpellsNoAlarm know flow defs text
    no_alarm_is = (
      λ e.
          let s = said_from text verdict chains.no_alarm (λ early. cc early) is e in
          record {
            lines = Header One Chain ∷ s.lines;
            spelled = s.spelled;
            holds = no_alarm_too k.lines.know know right.knows knows (Header One Chain ∷ s.lines)
                ((laws.no_alarm k flow defs s.lines valid right).0 s.said);
          },
      λ s. said_to text verdict chains.no_alarm (HasNoAlarm k.lines.know flow defs) _ s.lines (λ early. cc early)
          s.spelled s.holds.0.spelled (laws.no_alarm k flow defs _ valid right)
          (no_alarm_too know k.lines.know knows right.knows s.lines s.holds) is,
    )

    unfinished_is : (verdict ≡ Refused refusal.Unfinished) ↔ SpellsUnfinished know flow defs text
    unfinished_is = (
      λ e.
          let s = said_from text verdict chains.unfinished (λ early. cc early) is e in
          record {
            lines = Header One Chain ∷ s.lines;
            spelled = s.spelled;
            holds = unfinished_too k.lines.know know right.knows knows (Header One Chain ∷ s.lines)
                ((laws.unfinished k flow defs s.lines valid right).0 s.said);
          },
      λ s. said_to text verdict chains.unfinished (IsUnfinished k.lines.know flow defs) _ s.lines (λ early. cc early)
          s.spelled s.holds.0.spelled (laws.unfinished k flow defs _ valid right)
          (unfinished_too know k.lines.know knows right.knows s.lines s.holds) is,
    )

  pub tells : (text : List ℕ) (verdict : Verdict) → IsVerdict k flow defs (lines_of text) verdict → Tells flow defs text verdict
  tells text verdict is = record {
    safe = (safe_from text verdict is, safe_to text verdict is);
    alarms = λ know count knows. alarms_are text verdict is know knows count;
    no_alarm = λ know knows. no_alarm_is text verdict is know knows;
    unfinished = λ know knows. unfinished_is text verdict is know knows;
  }

  pub if_tells : (text : List ℕ) (r : Result Verdict AllocError) → IfOk r (IsVerdict k flow defs (lines_of text)) → IfOk r (Tells flow defs text)
  if_tells text (Ok verdict) is = tells text verdict is
  if_tells text (Err e) is = tt
