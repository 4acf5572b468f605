-- What is found of a flow graph.
use Rattle.std.specs.Prelude.{◌≡◌, ◌<◌, ◌≤◌, ℕ, Bool, true, false, All, Contains, List, [], ◌∷◌, length, map}
use Rattle.std.specs.List.{filter}
use Rattle.mc_lines.specs.declared.cert.line.Line.{Line}
use Rattle.mc_lines.specs.declared.cert.line.Line.TheVariants as line
use Rattle.mc_lines.specs.Cert.Lines.{lines_of}
use Rattle.mc_flow.specs.declared.defs.rules.Def.{Def}
use Rattle.mc_flow.specs.declared.graph.Flow.{Flow}
use Rattle.mc_follow.specs.Alarms.Outcomes.{IsCrowded}
use Rattle.mc_follow.specs.Alarms.Walks.{ended_by}
use Rattle.mc_document.specs.Spelled.{SpellAll}
use Rattle.mc_document.specs.Places.{FitsSides, cuts_of}
use Rattle.mc_state.specs.declared.line.Form.TheVariants as forms
use Rattle.mc_state.specs.declared.line.Version.TheVariants.{One}
use Rattle.mc_kernel.specs.Branches.{Path}
use Rattle.mc_kernel.specs.Certificates.{IsValidCertificate}
use Rattle.mc_kernel.specs.Reading.Documents.{IsShortChain}
use Rattle.mc_exact.specs.Marks.{Alarm, AreMarked, unmarked}
use Rattle.mc_follow.specs.Report.Report.{IsCertificateReport, IsChainReport}
use Rattle.mc_follow.specs.declared.report.chains.ChainReport.{ChainReport}
use Rattle.mc_find.specs.declared.analysis.analysis.Analysis.{Analysis}
use Rattle.mc_find.specs.declared.analysis.analysis.Analysis.TheVariants.{Safe, Alarms, Paths, Unknown}
use Rattle.mc_find.specs.declared.analysis.analysis.Findings.{Findings}
use Rattle.mc_find.specs.declared.analysis.proposed.Proposed.{Proposed}
use Rattle.mc_find.specs.declared.analysis.proposed.Proposed.TheVariants as proposed

-- ---- cuts

-- each loop head is a cut of the lines; and where states are merged, so is each point where an `if` ends
pub record HasCuts (flow : Flow) (merge : Bool) (lines : List Line) : Type 0 where
  pub heads : All (Contains (cuts_of lines)) flow.heads
  pub merges : merge ≡ true → All (Contains (cuts_of lines)) flow.merges

-- the program has no loop, and no states are merged: every branch is followed to its end, and its alarms are those that are met so
abbrev pub IsFollowedWhole : Flow → (merge : Bool) → Type 0
IsFollowedWhole flow merge = (flow.heads ≡ []) × (merge ≡ false)

-- ---- documents

-- the lines are a valid certificate as it is found: no more than 65,536 branches are ended, the cuts are those that are asked for,
-- and perhaps more, and on side branches no line stands but those that may
pub record IsFound (flow : Flow) (defs : List Def) (merge : Bool) (lines : List Line) : Type 0 where
  pub valid : IsValidCertificate flow defs lines
  pub within : ended_by lines ≤ 65536
  pub cuts : HasCuts flow merge lines
  pub sides : FitsSides flow defs forms.Certificate lines

-- the lines are a chain of one pass as it is found: a branch is stuck, no more than 65,536 branches are ended, the cuts are those
-- that are asked for, and perhaps more, and on side branches no line stands but those that may
pub record IsFoundChain (flow : Flow) (defs : List Def) (merge : Bool) (lines : List Line) : Type 0 where
  pub stuck : List Path
  pub chain : IsShortChain flow defs lines stuck
  pub some : 0 < length stuck
  pub within : ended_by lines ≤ 65536
  pub cuts : HasCuts flow merge lines
  pub sides : FitsSides flow defs forms.Chain lines

-- the lines are such a chain, and the report is that of its heads and its stuck branches, unmarked, of which there are so many
pub record IsReported (flow : Flow) (defs : List Def) (merge : Bool) (lines : List Line) (r : ChainReport) : Type 0 where
  pub stuck : List Path
  pub chain : IsShortChain flow defs lines stuck
  pub within : ended_by lines ≤ 65536
  pub cuts : HasCuts flow merge lines
  pub sides : FitsSides flow defs forms.Chain lines
  pub report : IsChainReport flow defs chain.heads (map unmarked stuck) r.text.items
  pub counted : r.count ≡ length stuck
  pub some : 0 < r.count

-- what a search for alarms proposes is a certificate or a chain as it is found, a chain with its report
abbrev pub IsProposed : Flow → List Def → (merge : Bool) → Proposed → Type 0
IsProposed flow defs merge (proposed.Certificate lines) = IsFound flow defs merge lines.items
IsProposed flow defs merge (proposed.Chain lines report) = IsReported flow defs merge lines.items report

-- ---- findings

-- the document spells a valid certificate as it is found, and the report is that of its heads
pub record IsProved (flow : Flow) (defs : List Def) (merge : Bool) (f : Findings) : Type 0 where
  pub lines : List Line
  pub spelled : SpellAll (lines_of f.document.items) lines
  pub valid : IsValidCertificate flow defs lines
  pub within : ended_by lines ≤ 65536
  pub cuts : HasCuts flow merge lines
  pub sides : FitsSides flow defs forms.Certificate lines
  pub report : IsCertificateReport flow defs valid.heads f.report.items

-- the document spells a chain of one pass with so many stuck branches, of which no more than 65,536 branches are ended, with the
-- cuts that are asked for, and the report is that of its heads and the stuck branches; where every branch is followed to its end,
-- there are no cuts, and the stuck branches are marked
pub record HasAlarms (flow : Flow) (defs : List Def) (merge : Bool) (f : Findings) (count : ℕ) : Type 0 where
  pub lines : List Line
  pub stuck : List Path
  pub alarms : List Alarm
  pub stuck_are : stuck ≡ map (λ a. a.0) alarms
  pub spelled : SpellAll (lines_of f.document.items) lines
  pub chain : IsShortChain flow defs lines stuck
  pub within : ended_by lines ≤ 65536
  pub cuts : HasCuts flow merge lines
  pub sides : FitsSides flow defs forms.Chain lines
  pub uncut : IsFollowedWhole flow merge → cuts_of lines ≡ []
  pub marked : IsFollowedWhole flow merge → AreMarked flow defs lines alarms
  pub not_marked : (IsFollowedWhole flow merge → ⊥) → alarms ≡ map unmarked stuck
  pub report : IsChainReport flow defs chain.heads alarms f.report.items
  pub counted : count ≡ length stuck
  pub some : 0 < count

-- the document spells the front of a chain of one pass, of which the last line ends the 65,537th branch
pub record HasTooManyPaths (flow : Flow) (defs : List Def) (document : List ℕ) : Type 0 where
  pub lines : List Line
  pub spelled : SpellAll (lines_of document) lines
  pub crowded : IsCrowded flow defs lines

-- a certificate has a line of a chain of one pass too, if it is neither the header nor the pass
abbrev pub stays : Line → Bool
stays (line.Header version form) = false
stays line.Pass = false
stays other = true

-- the lines of a chain under the header of a certificate, without the pass
abbrev pub under_header : List Line → List Line
under_header lines = line.Header One forms.Certificate ∷ filter stays lines

-- what is found; a search may give up, but not where every branch is followed to its end
abbrev pub IsAnalysis : Flow → List Def → (merge : Bool) → Analysis → Type 0
IsAnalysis flow defs merge (Safe f) = IsProved flow defs merge f
IsAnalysis flow defs merge (Alarms f count) = HasAlarms flow defs merge f count
IsAnalysis flow defs merge (Paths document) = HasTooManyPaths flow defs document.items
IsAnalysis flow defs merge Unknown = IsFollowedWhole flow merge → ⊥
