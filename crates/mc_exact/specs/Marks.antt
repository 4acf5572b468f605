-- The alarms of a chain without cuts and heads, each with the answers of malloc to the run that faults there, where it has them.
use Rattle.std.specs.Prelude.{◌≡◌, ◌≤◌, ℕ, List, [], ◌∷◌, ◌++◌, map, Bool, true, false, Option, Some, None, if◌then◌else◌}
use Rattle.std.specs.List.{AllByRecursion}
use Rattle.mc_base.specs.declared.ids.NodeId.{NodeId}
use Rattle.mc_base.specs.declared.ids.PredId.{PredId}
use Rattle.mc_flow.specs.declared.defs.rules.Def.{Def}
use Rattle.mc_flow.specs.declared.graph.Flow.{Flow}
use Rattle.mc_flow.specs.Valid.{IsValid}
use Rattle.mc_state.specs.declared.line.Form.TheVariants.{Chain}
use Rattle.mc_state.specs.declared.line.InstrRule.TheVariants.{S4, S15, S16}
use Rattle.mc_state.specs.declared.line.Version.TheVariants.{One}
use Rattle.mc_state.specs.Known.{Test, Tells}
use Rattle.mc_state.specs.State.{State}
use Rattle.mc_rules_steps.specs.declared.gap.Gap.{Gap}
use Rattle.mc_rules_steps.specs.declared.gap.Gap.TheVariants.{NoShape}
use Rattle.mc_rules_steps.specs.Unmet.{IsUnmet}
use Rattle.mc_lines.specs.declared.cert.line.Line.{Line}
use Rattle.mc_lines.specs.declared.cert.line.Line.TheVariants as line
use Rattle.mc_kernel.specs.Branches.{Path, Setting, IsPlain, entry_path}
use Rattle.mc_kernel.specs.Instances.{IsInstance}
use Rattle.mc_kernel.specs.Progress.Progress.{advances}
use Rattle.mc_exact.specs.Exact.{Picks}
use Rattle.mc_exact.specs.Real.{IsShort, answered}
use Rattle.mc_exact.specs.Tracks.{AsksMallocAlone, IsExactTrack, tracked}

-- ---- branches

-- an open branch, and what malloc answered on it, where it is known to be exact
abbrev pub Branch : Type 0
Branch = Path × Option Picks

-- the line is one of an instruction at which a run is given nothing but an answer of malloc, and no shape is asserted
abbrev pub keeps_exact : Line → Bool
keeps_exact (line.Step S4) = false
keeps_exact (line.Step S15) = false
keeps_exact (line.Step S16) = false
keeps_exact (line.Step other) = true
keeps_exact other = false

-- branches that are not known to be exact
abbrev pub inexact : List Path → List Branch
inexact next = map (λ n. (n, None)) next

-- the branches that come of one by a line: of an exact one exact ones, by a line that keeps them so
abbrev pub followed : Line → Branch → List Path → List Branch
followed l (b, None) next = inexact next
followed l (b, Some picks) next =
    if keeps_exact l then map (λ t. (t.0, Some t.1)) (tracked l b.state picks next) else inexact next

-- ---- alarms

-- a stuck branch, and the answers of malloc to the run that faults there, where it is marked
abbrev pub Alarm : Type 0
Alarm = Path × Option (List ℕ)

-- an alarm that is not marked
abbrev pub unmarked : Path → Alarm
unmarked b = (b, None)

-- the gap is a shape
abbrev pub IsShape : Gap → Type 0
IsShape gap = (pred : PredId) × (n : NodeId) × (gap ≡ NoShape pred n)

-- the mark of a branch that is stuck at a state with a gap: the answers of malloc by what is known there, where it is exact and
-- the gap is no shape
abbrev pub IsMark : State → Option Picks → Gap → Option (List ℕ) → Type 0
IsMark s None gap mark = mark ≡ None
IsMark s (Some picks) gap None = IsShape gap
IsMark s (Some picks) gap (Some answers) =
    (IsShape gap → ⊥) × ((know : Test) → Tells know s → answers ≡ map (answered know) picks)

-- ---- chains

-- what the lines of a chain are judged by that has neither cuts nor heads
abbrev pub alone : Setting
alone = record { form = Chain; cuts = []; heads = [] }

-- from the entry, the lines of rules come to these open branches and alarms: each line advances the first branch, unless that is
-- a side branch, or ends it as an alarm
pub data Tracked (flow : Flow) (defs : List Def) : List Line → List Branch → List Alarm → Type 0 where
  entry : Tracked flow defs [] ((entry_path flow, Some []) ∷ []) []
  ruled : {lines : List Line} {others : List Branch} {alarms : List Alarm} (l : Line) (b : Branch) (next : List Path)
      → Tracked flow defs lines (b ∷ others) alarms
      → (IsPlain b.0 → advances l ≡ true) → IsInstance flow defs alone l b.0 next
      → Tracked flow defs (lines ++ l ∷ []) (followed l b next ++ others) alarms
  stuck : {lines : List Line} {others : List Branch} {alarms : List Alarm} (b : Branch) (next : List Path) (gap : Gap)
      (mark : Option (List ℕ))
      → Tracked flow defs lines (b ∷ others) alarms → IsInstance flow defs alone line.C1 b.0 next
      → IsUnmet flow defs b.0.point b.0.state gap → IsMark b.0.state b.1 gap mark
      → Tracked flow defs (lines ++ line.C1 ∷ []) others (alarms ++ (b.0, mark) ∷ [])

-- the lines are a chain without cuts and heads, of whose pass come these alarms
pub record AreMarked (flow : Flow) (defs : List Def) (lines : List Line) (alarms : List Alarm) : Type 0 where
  pub rules : List Line
  pub spelled : lines ≡ line.Header One Chain ∷ line.Pass ∷ (rules ++ line.End ∷ [])
  pub ends : Tracked flow defs rules [] alarms

-- ---- laws

-- the alarm of an exact branch that lacks something, no shape: these answers, which are small, are those that it has by all that
-- is known at its state
pub record IsExactAlarm (flow : Flow) (defs : List Def) (b : Path) (answers : List ℕ) : Type 0 where
  pub picks : Picks
  pub track : IsExactTrack flow (b, picks)
  pub gap : Gap
  pub unmet : IsUnmet flow defs b.point b.state gap
  pub other : IsShape gap → ⊥
  pub answers_are : (know : Test) → Tells know b.state → answers ≡ map (answered know) picks
  pub small : AllByRecursion (λ n. n ≤ 30000) answers

-- where the alarm is marked, it is such
abbrev pub IsRightAlarm : Flow → List Def → Alarm → Type 0
IsRightAlarm flow defs (b, None) = Unit {0}
IsRightAlarm flow defs (b, Some answers) = IsExactAlarm flow defs b answers

-- the alarm is marked
abbrev pub IsMarked : Alarm → Type 0
IsMarked (b, None) = ⊥
IsMarked (b, Some answers) = Unit {0}

-- marked alarms are exact
abbrev pub MarksAreExact : Type 0
MarksAreExact =
    (flow : Flow) (defs : List Def) (lines : List Line) (alarms : List Alarm)
    → IsValid flow defs → IsShort flow → AreMarked flow defs lines alarms → AllByRecursion (IsRightAlarm flow defs) alarms

-- and where runs are given answers of malloc alone, every alarm is marked
abbrev pub ClosedAlarmsAreMarked : Type 0
ClosedAlarmsAreMarked =
    (flow : Flow) (defs : List Def) (lines : List Line) (alarms : List Alarm)
    → AsksMallocAlone flow → AreMarked flow defs lines alarms → AllByRecursion IsMarked alarms
