-- What is said of documents: of the lines that were read, and of the whole.
use Rattle.std.specs.Prelude.{◌≡◌, ◌≢◌, ◌⊎◌, ◌↔◌, ◌++◌, ℕ, suc, List, [], ◌∷◌, Ok, Err, length}
use Rattle.serde_json.specs.Data.{Data}
use Rattle.mc_lines.specs.declared.cert.fault.LineFault.TheVariants.{NoMemory}
use Rattle.mc_lines.specs.declared.cert.line.Line.{Line}
use Rattle.mc_lines.specs.declared.cert.line.Line.TheVariants.{Header}
use Rattle.mc_lines.specs.Cert.Document.{ReadsAs, Spells, data_of}
use Rattle.mc_lines.specs.Cert.Entries.{named_data}
use Rattle.mc_lines.specs.Cert.Lines.{lines_of}
use Rattle.mc_flow.specs.declared.defs.rules.Def.{Def}
use Rattle.mc_flow.specs.declared.graph.Flow.{Flow}
use Rattle.mc_state.specs.Known.{Test}
use Rattle.mc_state.specs.State.{State}
use Rattle.mc_state.specs.declared.line.Form.{Form}
use Rattle.mc_state.specs.declared.line.Version.{Version}
use Rattle.mc_state.specs.declared.line.Version.TheVariants.{One}
use Rattle.mc_kernel.specs.Certificates.{IsValidCertificate}
pub use Rattle.mc_document.specs.Spelled.{SpellAll}
use Rattle.mc_joins.specs.Chains.Chains.{HasAlarms, HasNoAlarm, IsUnfinished, KnowsStates}
use Rattle.mc_joins.specs.Chains.Judges as chains
use Rattle.mc_joins.specs.Chains.Judges.{Lore, verdict_of}
use Rattle.mc_judge.specs.declared.judge.verdict.Refusal.{Refusal}
use Rattle.mc_judge.specs.declared.judge.verdict.Refusal.TheVariants as refusal
use Rattle.mc_judge.specs.declared.judge.verdict.Verdict.{Verdict}
use Rattle.mc_judge.specs.declared.judge.verdict.Verdict.TheVariants.{Safe, Alarms, Refused}
use Rattle.mc_judge.specs.Documents.{Document, certificate, chain, IsEnded, read_document, read_line}

-- the texts spell a document's header and lines that are read, and this is what the document has become
pub record IsReading (k : Lore) (flow : Flow) (defs : List Def) (texts : List (List ℕ)) (d : Document) : Type 0 where
  pub form : Form
  pub lines : List Line
  pub spelled : SpellAll texts (Header One form ∷ lines)
  pub read : read_document k flow defs form lines ≡ Ok d

-- the document that the texts begin goes on
abbrev pub GoesOn : Lore → Flow → List Def → List (List ℕ) → Type 0
GoesOn k flow defs [] = Unit {0}
GoesOn k flow defs (text ∷ texts) =
    (d : Document) × IsReading k flow defs (text ∷ texts) d × (IsEnded d → ⊥)

-- after the texts this is the line's first unmet premise: at the beginning the first one of whatever is no header
abbrev pub IsUnmetBehind : Lore → Flow → List Def → List (List ℕ) → Line → ℕ → Type 0
IsUnmetBehind k flow defs [] line premise =
    ((version : Version) (form : Form) → line ≢ Header version form) × (premise ≡ 1)
IsUnmetBehind k flow defs (text ∷ texts) line premise =
    (d : Document) × IsReading k flow defs (text ∷ texts) d × (IsEnded d → ⊥)
    × (read_line k flow defs line d ≡ Err premise)

-- the line's name is the first text of its array
abbrev pub IsNamed : Line → List ℕ → Type 0
IsNamed line name = (entries : List Data) × (data_of line ≡ named_data name entries)

-- the text, after others, is refused: it is no line, no instance, or stands after the end
abbrev pub IsRefusedBehind : Lore → Flow → List Def → List (List ℕ) → List ℕ → Refusal → Type 0
IsRefusedBehind k flow defs before text (refusal.Line number fault) =
    (number ≡ suc (length before)) × GoesOn k flow defs before × ReadsAs text (Err fault) × (fault ≢ NoMemory)
IsRefusedBehind k flow defs before text (refusal.Rule number name premise) =
    (number ≡ suc (length before))
    × ((line : Line) × Spells text line × IsNamed line name.now × IsUnmetBehind k flow defs before line premise)
IsRefusedBehind k flow defs before text (refusal.AfterEnd number) =
    (number ≡ suc (length before)) × ((d : Document) × IsReading k flow defs before d × IsEnded d)
IsRefusedBehind k flow defs before text refusal.EndsEarly = ⊥
IsRefusedBehind k flow defs before text refusal.NoAlarm = ⊥
IsRefusedBehind k flow defs before text refusal.Unfinished = ⊥

-- one of the texts is refused after those before it
pub record IsRefusal (k : Lore) (flow : Flow) (defs : List Def) (texts : List (List ℕ))
    (cause : Refusal) : Type 0 where
  pub before : List (List ℕ)
  pub text : List ℕ
  pub later : List (List ℕ)
  pub spelled : texts ≡ before ++ text ∷ later
  pub refused : IsRefusedBehind k flow defs before text cause

-- what is said of a chain, as a verdict
abbrev pub verdict_on : chains.Verdict → Verdict
verdict_on (chains.alarms count) = Alarms count
verdict_on chains.no_alarm = Refused refusal.NoAlarm
verdict_on chains.unfinished = Refused refusal.Unfinished
verdict_on chains.ends_early = Refused refusal.EndsEarly

-- what is said of a document that has ended
abbrev pub said_of : Document → Verdict
said_of (certificate r) = Safe
said_of (chain r) = verdict_on (verdict_of r)

-- the texts are all read, and the document has ended
abbrev pub HasEnded : Lore → Flow → List Def → List (List ℕ) → Verdict → Type 0
HasEnded k flow defs texts verdict =
    (d : Document) × IsReading k flow defs texts d × IsEnded d × (verdict ≡ said_of d)

-- the verdict on a document: it has ended, ends early, or one of its lines is refused
abbrev pub IsVerdict : Lore → Flow → List Def → List (List ℕ) → Verdict → Type 0
IsVerdict k flow defs texts verdict =
    HasEnded k flow defs texts verdict
    ⊎ ((GoesOn k flow defs texts × (verdict ≡ Refused refusal.EndsEarly))
    ⊎ ((cause : Refusal) × IsRefusal k flow defs texts cause × (verdict ≡ Refused cause)))

-- ---- verdicts on texts, without a judge

-- the text spells lines of which this holds
pub record SpellsSome (text : List ℕ) (Holds : List Line → Type 0) : Type 0 where
  pub lines : List Line
  pub spelled : SpellAll (lines_of text) lines
  pub holds : Holds lines

-- the text spells a valid certificate
abbrev pub IsCertificate : Flow → List Def → List ℕ → Type 0
IsCertificate flow defs text = SpellsSome text (IsValidCertificate flow defs)

-- the text spells a final legal chain with so many stuck branches, at least one
abbrev pub SpellsAlarms : (State → Test) → Flow → List Def → List ℕ → ℕ → Type 0
SpellsAlarms know flow defs text count = SpellsSome text (λ lines. HasAlarms know flow defs lines count)

-- one without a stuck branch
abbrev pub SpellsNoAlarm : (State → Test) → Flow → List Def → List ℕ → Type 0
SpellsNoAlarm know flow defs text = SpellsSome text (HasNoAlarm know flow defs)

-- a legal chain that is not final
abbrev pub SpellsUnfinished : (State → Test) → Flow → List Def → List ℕ → Type 0
SpellsUnfinished know flow defs text = SpellsSome text (IsUnfinished know flow defs)

-- safe exactly where the text spells a valid certificate; and, by whatever tells what is entailed in states, so many alarms
-- exactly where it spells a final legal chain with so many stuck branches, no alarm where it spells one without, and
-- unfinished where it spells a legal chain that is not final
pub record Tells (flow : Flow) (defs : List Def) (text : List ℕ) (verdict : Verdict) : Type 0 where
  pub safe : (verdict ≡ Safe) ↔ IsCertificate flow defs text
  pub alarms : (know : State → Test) (count : ℕ) → KnowsStates flow defs know
      → (verdict ≡ Alarms count) ↔ SpellsAlarms know flow defs text count
  pub no_alarm : (know : State → Test) → KnowsStates flow defs know
      → (verdict ≡ Refused refusal.NoAlarm) ↔ SpellsNoAlarm know flow defs text
  pub unfinished : (know : State → Test) → KnowsStates flow defs know
      → (verdict ≡ Refused refusal.Unfinished) ↔ SpellsUnfinished know flow defs text
