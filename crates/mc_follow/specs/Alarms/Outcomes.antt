-- What comes of following a program.
use Rattle.std.specs.Prelude.{◌≡◌, ◌<◌, ◌≤◌, ◌++◌, Bool, List, [], ◌∷◌, length, map}
use Rattle.mc_lines.specs.declared.cert.line.Line.{Line}
use Rattle.mc_lines.specs.declared.cert.line.Line.TheVariants.{Header}
use Rattle.mc_flow.specs.declared.defs.rules.Def.{Def}
use Rattle.mc_flow.specs.declared.graph.Flow.{Flow}
use Rattle.mc_state.specs.declared.line.Form.TheVariants.{Chain}
use Rattle.mc_state.specs.declared.line.Version.TheVariants.{One}
use Rattle.mc_state.specs.declared.raw_state.RawState.{RawState}
use Rattle.mc_kernel.specs.Branches.{Path}
use Rattle.mc_kernel.specs.Judges.{Knowledge}
use Rattle.mc_kernel.specs.Reading.Documents.{IsJudge, IsOpen, IsShortChain}
use Rattle.mc_exact.specs.Marks.{Alarm, AreMarked}
use Rattle.mc_follow.specs.Report.Report.{IsChainReport}
use Rattle.mc_follow.specs.declared.alarms.outcome.Document.{Document}
use Rattle.mc_follow.specs.declared.alarms.outcome.Outcome.{Outcome}
use Rattle.mc_follow.specs.declared.alarms.outcome.Outcome.TheVariants.{Whole, Paths}
use Rattle.mc_follow.specs.declared.alarms.walk.Walk.{Walk}
use Rattle.mc_follow.specs.Alarms.Walks.{IsWalk, ended_by}
use Rattle.mc_document.specs.Places.{HasPlaces}

-- the lines are a chain of one pass with so many stuck branches, and the text is its report, with their marks
pub record IsWhole (flow : Flow) (defs : List Def) (d : Document) : Type 0 where
  pub stuck : List Path
  pub alarms : List Alarm
  pub stuck_are : stuck ≡ map (λ a. a.0) alarms
  pub chain : IsShortChain flow defs d.lines.items stuck
  pub marked : AreMarked flow defs d.lines.items alarms
  pub report : IsChainReport flow defs chain.heads alarms d.text.items
  pub counted : d.count ≡ length stuck
  pub within : ended_by d.lines.items ≤ 65536
  pub places : HasPlaces flow defs Chain d.lines.items

-- the lines are a chain's, of which the end is missing: whoever judges rightly, all are read
pub record IsFront (flow : Flow) (defs : List Def) (lines : List Line) : Type 0 where
  pub behind : List Line
  pub spelled : lines ≡ Header One Chain ∷ behind
  pub reads : (k : Knowledge) (well : RawState → Bool) → IsJudge k well flow defs → IsOpen k well flow defs Chain behind

-- the lines are the front of a chain, and the last of them ends the 65,537th branch
pub record IsCrowded (flow : Flow) (defs : List Def) (lines : List Line) : Type 0 where
  pub front : IsFront flow defs lines
  pub before : List Line
  pub last : Line
  pub last_is : lines ≡ before ++ last ∷ []
  pub before_last : ended_by before ≡ 65536
  pub with_last : ended_by lines ≡ 65537
  pub places : HasPlaces flow defs Chain lines

-- a walk may go on, or has come to its last line
abbrev pub IsOnward : Flow → List Def → Walk → Type 0
IsOnward flow defs walk =
    (walk.ended ≤ 65536 → IsWalk flow defs walk) × (65536 < walk.ended → IsCrowded flow defs walk.lines.items)

-- what an outcome says
abbrev pub IsOutcome : Flow → List Def → Outcome → Type 0
IsOutcome flow defs (Whole d) = IsWhole flow defs d
IsOutcome flow defs (Paths lines) = IsCrowded flow defs lines.items
