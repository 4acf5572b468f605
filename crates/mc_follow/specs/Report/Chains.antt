-- Chains that are read for their reports.
use Rattle.std.specs.Prelude.{◌≡◌, Bool, List, [], ◌∷◌, Ok, length, map}
use Rattle.mc_lines.specs.declared.cert.line.Line.{Line}
use Rattle.mc_lines.specs.declared.cert.line.Line.TheVariants as line
use Rattle.mc_flow.specs.declared.defs.rules.Def.{Def}
use Rattle.mc_flow.specs.declared.graph.Flow.{Flow}
use Rattle.mc_state.specs.declared.line.Form.TheVariants.{Chain}
use Rattle.mc_state.specs.declared.raw_state.RawState.{RawState}
use Rattle.mc_state_io.specs.Text.Text.{Text}
use Rattle.mc_rules_steps.specs.declared.gap.Gap.{Gap}
use Rattle.mc_rules_steps.specs.Unmet.{IsUnmet}
use Rattle.mc_kernel.specs.Branches.{Path}
use Rattle.mc_kernel.specs.Judges.{Knowledge}
use Rattle.mc_kernel.specs.Readings.{Reading, begun}
use Rattle.mc_kernel.specs.Reading.Documents.{IsJudge, IsShortChain, reading_document}
use Rattle.mc_document.specs.Places.{AreInPlace, FitsSides}
use Rattle.mc_document.specs.Proof.Positions.{Position, Stands}
use Rattle.mc_exact.specs.Marks.{unmarked}
use Rattle.mc_follow.specs.declared.report.chains.ChainReport.{ChainReport}
use Rattle.mc_follow.specs.declared.report.chains.Draft.{Draft}
use Rattle.mc_follow.specs.Report.Heads.{AreWritten, heads_of}
use Rattle.mc_follow.specs.Report.Report.{AreAlarmLines, IsAlarmLine, IsChainReport}

-- a chain of one pass with these stuck branches, on whose side branches no line stands but those that may
abbrev pub IsChainInPlace : Flow → List Def → List Line → List Path → Type 0
IsChainInPlace flow defs lines stuck = IsShortChain flow defs lines stuck × FitsSides flow defs Chain lines

-- the lines are no such chain, whatever is stuck
abbrev pub IsNoChain : Flow → List Def → List Line → Type 0
IsNoChain flow defs lines = (stuck : List Path) → IsChainInPlace flow defs lines stuck → ⊥

-- the lines are such a chain, with this report of its heads and its stuck branches, unmarked, of which there are so many
pub record IsReportOf (flow : Flow) (defs : List Def) (lines : List Line) (r : ChainReport) : Type 0 where
  pub stuck : List Path
  pub chain : IsShortChain flow defs lines stuck
  pub sides : FitsSides flow defs Chain lines
  pub text : IsChainReport flow defs chain.heads (map unmarked stuck) r.text.items
  pub counted : r.count ≡ length stuck

-- ---- while a chain is read

-- the text is the line of the first branch, where its instruction lacks something
abbrev pub IsFirstAlarm : Flow → List Def → Position → Text → Type 0
IsFirstAlarm flow defs p text =
    (b : Path) (others : List Path) (gap : Gap) → p.branches ≡ b ∷ others → IsUnmet flow defs b.point b.state gap
    → IsAlarmLine flow defs b.point b.state text

-- the text is what a line adds to those of the stuck branches
abbrev pub AddsAlarm : Flow → List Def → Position → Line → Text → Type 0
AddsAlarm flow defs p line.C1 text = IsFirstAlarm flow defs p text
AddsAlarm flow defs p other text = text ≡ []

-- whoever judges rightly, the lines after the header are read up to here, and the text is the lines of the stuck branches
pub record IsToldTo (k : Knowledge) (well : RawState → Bool) (flow : Flow) (defs : List Def) (lines : List Line) (p : Position)
    (text : Text) : Type 0 where
  pub last : Reading
  pub read : reading_document k well flow defs Chain lines ≡ Ok last
  pub stands : Stands k well last p
  pub alarms : AreAlarmLines flow defs (map unmarked last.stuck) text

-- whoever judges rightly, the lines after the header of a chain are read up to here, each where it may stand, and the texts are
-- the lines of their heads and of the branches that are stuck by them
pub record IsDraft (flow : Flow) (defs : List Def) (lines : List Line) (d : Draft) : Type 0 where
  pub of_flow : d.proof.flow ≡ flow
  pub of_defs : d.proof.defs ≡ defs
  pub form_is : d.proof.form ≡ Chain
  pub reads : (k : Knowledge) (well : RawState → Bool) → IsJudge k well flow defs → IsToldTo k well flow defs lines d.proof d.alarms.items
  pub in_place : (k : Knowledge) (well : RawState → Bool) → IsJudge k well flow defs → AreInPlace k well flow defs lines (begun Chain)
  pub written : AreWritten flow defs (heads_of lines) d.points.items d.heads.items

-- some lines are read so
abbrev pub HasRead : Flow → List Def → Draft → Type 0
HasRead flow defs d = (lines : List Line) × IsDraft flow defs lines d
