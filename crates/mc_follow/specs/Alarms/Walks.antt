-- A chain that is being written.
use Rattle.std.specs.Prelude.{◌≡◌, ◌+◌, ◌≤◌, ℕ, Bool, true, false, List, [], ◌∷◌, ◌++◌, Option, Some, None, Ok, map, option_and_then}
use Rattle.std.specs.List.{AllByRecursion}
use Rattle.mc_base.specs.declared.plain.Kind.TheVariants.{Ptr}
use Rattle.mc_state.specs.declared.line.InstrRule.TheVariants.{S17}
use Rattle.mc_lines.specs.declared.cert.line.Line.{Line}
use Rattle.mc_lines.specs.declared.cert.line.Line.TheVariants as line
use Rattle.mc_flow.specs.declared.defs.rules.Def.{Def}
use Rattle.mc_flow.specs.declared.graph.Flow.{Flow}
use Rattle.mc_flow.specs.Valid.{IsValid}
use Rattle.mc_state.specs.Graph.Graph.{Edges}
use Rattle.mc_pure.specs.Pure.{HasKind}
use Rattle.mc_state.specs.declared.line.Form.TheVariants.{Chain}
use Rattle.mc_state.specs.declared.line.Version.TheVariants.{One}
use Rattle.mc_state.specs.declared.raw_state.RawState.{RawState}
use Rattle.mc_state.specs.Covers.{Cover}
use Rattle.mc_state.specs.Facts.{IsFalse}
use Rattle.mc_state.specs.Fits.{ArgsFit}
use Rattle.mc_state.specs.State.{State, next_node}
use Rattle.mc_state.specs.Terms.{plain}
use Rattle.mc_kernel.specs.Branches.{IsPlain, Path}
use Rattle.mc_kernel.specs.Instances.{IsInstance}
use Rattle.mc_kernel.specs.Judges.{Knowledge}
use Rattle.mc_kernel.specs.Readings.{Reading, begun, ruling}
use Rattle.mc_kernel.specs.Reading.Documents.{IsJudge, reading_document}
use Rattle.mc_state.specs.Known.{Test, Tells}
use Rattle.mc_kernel.specs.Progress.Asked.{at_code, false_or_null}
use Rattle.mc_kernel.specs.Progress.Progress.{IsInside, advances}
use Rattle.mc_document.specs.Places.{AreInPlace, cuts_of, may_stand}
use Rattle.mc_document.specs.Proof.Lines.{setting_at}
use Rattle.mc_document.specs.Proof.Positions.{Position, Stands}
use Rattle.mc_exact.specs.Exact.{Picks}
use Rattle.mc_exact.specs.Marks.{Alarm, Branch, Tracked}
use Rattle.mc_follow.specs.Report.Heads.{heads_of}
use Rattle.mc_follow.specs.Report.Report.{AreAlarmLines}
use Rattle.mc_state.specs.declared.goal.Goal.{Goal}
use Rattle.mc_rules_steps.specs.declared.gap.Gap.{Gap}
use Rattle.mc_rules_steps.specs.Operands.{code_at}
use Rattle.mc_rules_steps.specs.Unmet.{IsUnmet}
use Rattle.mc_follow.specs.Alarms.Tracks.{come}
use Rattle.mc_follow.specs.declared.alarms.coming.Coming.{Coming}
use Rattle.mc_follow.specs.declared.alarms.following.Act.{Act}
use Rattle.mc_follow.specs.declared.alarms.following.Act.TheVariants.{Apply, EndSide, Code, Rest}
use Rattle.mc_follow.specs.declared.alarms.walk.Walk.{Walk}

-- the line is one of a rule that ends no branch as stuck
abbrev pub goes_on : Line → Bool
goes_on (line.Header version form) = false
goes_on (line.Cut p) = false
goes_on (line.Head p raw) = false
goes_on line.Pass = false
goes_on line.End = false
goes_on line.C1 = false
goes_on other = true

-- how many branches a line ends: one at the program's end, where the state is inconsistent, at a jump, where a goal is met, and
-- where an instruction is stuck. No line ends two, since it is read at one branch, and all others leave a branch at least: an
-- unfolding leaves one for each rule of its predicate, of which valid definitions have one or more
abbrev pub ending : Line → ℕ
ending (line.Step S17) = 1
ending line.L12 = 1
ending (line.L13 j images edges) = 1
ending (line.L14 edge) = 1
ending line.C1 = 1
ending other = 0

-- how many branches are ended by lines
abbrev pub ended_by : List Line → ℕ
ended_by [] = 0
ended_by (l ∷ lines) = ending l + ended_by lines

-- each branch is at a point of the flow graph, and none is closing
abbrev pub AreOpen : Flow → List Path → Type 0
AreOpen flow branches = AllByRecursion (λ b. IsInside flow b × (b.closing ≡ false)) branches

-- ---- side branches

-- a side branch's goal fits its state, and has a cover there unless the state is false
pub record IsCovered (defs : List Def) (s : State) (goal : Goal) : Type 0 where
  pub at : HasKind s.kinds Ptr goal.at
  pub args : ArgsFit defs s.kinds goal.pred goal.args
  pub cover : (IsFalse s → ⊥) → (left : Edges) × Cover defs s goal.pred (plain goal.at) (map plain goal.args) s.graph.edges left

-- the first open branch is a side branch whose goal has a cover
pub record IsAtCovered (defs : List Def) (p : Position) : Type 0 where
  pub first : Path
  pub others : List Path
  pub branches_are : p.branches ≡ first ∷ others
  pub goal : Goal
  pub side : first.goal ≡ Some goal
  pub covered : IsCovered defs first.state goal

-- each open side branch has a cover
abbrev pub AreCovered : List Def → List Path → Type 0
AreCovered defs branches = AllByRecursion (λ b. (goal : Goal) → b.goal ≡ Some goal → IsCovered defs b.state goal) branches

-- ---- walks

-- whoever judges rightly, the lines after the header are read up to here, and these branches are stuck
pub record IsReadTo (k : Knowledge) (well : RawState → Bool) (flow : Flow) (defs : List Def) (lines : List Line) (p : Position)
    (stuck : List Path) : Type 0 where
  pub last : Reading
  pub read : reading_document k well flow defs Chain lines ≡ Ok last
  pub stands : Stands k well last p
  pub stuck_are : last.stuck ≡ stuck

-- of these lines of rules come the branches that are open, with these tracks, and these alarms
pub record IsMarkedTo (flow : Flow) (defs : List Def) (rules : List Line) (branches : List Path) (tracks : List (Option Picks))
    (alarms : List Alarm) : Type 0 where
  pub is_open : List Branch
  pub branches_are : branches ≡ map (λ b. b.0) is_open
  pub tracks_are : tracks ≡ map (λ b. b.1) is_open
  pub tracked : Tracked flow defs rules is_open alarms

-- the lines are those of a chain of a valid flow graph without loops, without heads, each where it may stand, which is read up to
-- here after its pass, with so many ended branches, which are not too many, and these tracks of the open ones; the text is the
-- lines of its alarms
pub record IsFollowed (flow : Flow) (defs : List Def) (lines : List Line) (p : Position) (text : List ℕ) (ended : ℕ)
    (tracks : List (Option Picks)) : Type 0 where
  pub valid : IsValid flow defs
  pub rules : List Line
  pub spelled : lines ≡ line.Header One Chain ∷ line.Pass ∷ rules
  pub of_flow : p.flow ≡ flow
  pub of_defs : p.defs ≡ defs
  pub ruled : p.stage ≡ ruling
  pub alarms : List Alarm
  pub told : AreAlarmLines flow defs alarms text
  pub marked : IsMarkedTo flow defs rules p.branches tracks alarms
  pub reads : (k : Knowledge) (well : RawState → Bool) → IsJudge k well flow defs → IsReadTo k well flow defs (line.Pass ∷ rules) p (map (λ a. a.0) alarms)
  pub counted : ended ≡ ended_by lines
  pub within : ended ≤ 65536
  pub no_loops : flow.heads ≡ []
  pub uncut : cuts_of lines ≡ []
  pub unheaded : heads_of lines ≡ []
  pub in_place : (k : Knowledge) (well : RawState → Bool) → IsJudge k well flow defs → AreInPlace k well flow defs (line.Pass ∷ rules) (begun Chain)
  pub form_is : p.form ≡ Chain
  pub no_cuts : p.cuts ≡ []
  pub no_heads : p.heads ≡ []
  pub open_are : AreOpen flow p.branches

-- a walk has followed its lines
abbrev pub IsWalk : Flow → List Def → Walk → Type 0
IsWalk flow defs walk = IsFollowed flow defs walk.lines.items walk.proof walk.text.items walk.ended walk.tracks

-- ---- the first open branch

-- it is a side branch
pub record IsAtSide (p : Position) : Type 0 where
  pub first : Path
  pub others : List Path
  pub branches_are : p.branches ≡ first ∷ others
  pub goal : Goal
  pub side : first.goal ≡ Some goal

-- it is no side branch, and neither false nor has it an edge at null
pub record IsAtCode (p : Position) : Type 0 where
  pub first : Path
  pub others : List Path
  pub branches_are : p.branches ≡ first ∷ others
  pub plain : IsPlain first
  pub nothing_first : (know : Test) → Tells know first.state → false_or_null know first.state.graph.edges ≡ None

-- it is no side branch, and a line ends it as false, or unfolds an edge at null
pub record IsAtFirst (l : Line) (p : Position) : Type 0 where
  pub first : Path
  pub others : List Path
  pub branches_are : p.branches ≡ first ∷ others
  pub plain : IsPlain first
  pub asked : (know : Test) → Tells know first.state → false_or_null know first.state.graph.edges ≡ Some l

-- what it asks for
abbrev pub IsAct : Position → Act → Type 0
IsAct p (Apply l) = IsAtFirst l p
IsAct p EndSide = IsAtSide p
IsAct p Code = IsAtCode p
IsAct p Rest = p.branches ≡ []

-- a line may be tried: it advances the first branch, where that is no side branch, and may stand there, where it is one
pub record MayApply (l : Line) (p : Position) : Type 0 where
  pub advance : (b : Path) (others : List Path) → p.branches ≡ b ∷ others → IsPlain b → advances l ≡ true
  pub stands : may_stand l p.branches ≡ true

-- a line is no instance there
abbrev pub IsNowhere : Flow → List Def → Line → Position → Type 0
IsNowhere flow defs l p = (b : Path) (others next : List Path) → p.branches ≡ b ∷ others → IsInstance flow defs (setting_at p) l b next → ⊥

-- a line is surely read there: it goes on, may be applied, and is an instance
pub record IsSure (flow : Flow) (defs : List Def) (l : Line) (p : Position) : Type 0 where
  pub goes : goes_on l ≡ true
  pub may : MayApply l p
  pub there : IsNowhere flow defs l p → ⊥

-- what comes of a line at the first branch
abbrev pub IsComing : List Def → Line → Position → Coming → Type 0
IsComing defs l p c =
    (b : Path) (others : List Path) → p.branches ≡ b ∷ others → (c.node ≡ next_node b.state) × (c.count ≡ come defs b.state l)

-- its instruction is not unmet
abbrev pub IsMet : Flow → List Def → Position → Type 0
IsMet flow defs p = (b : Path) (others : List Path) (gap : Gap) → p.branches ≡ b ∷ others → IsUnmet flow defs b.point b.state gap → ⊥

-- its instruction asks for this line
abbrev pub IsCodeLine : Flow → List Def → Position → Option Line → Type 0
IsCodeLine flow defs p asked =
    (b : Path) (others : List Path) (know : Test) → p.branches ≡ b ∷ others → Tells know b.state
    → asked ≡ option_and_then (at_code know defs b.state) (code_at flow b.point)

-- ---- what a line made of it

-- a line was read at the first branch: it is an instance there, and what it gives comes in the branch's place
pub record IsTurned (flow : Flow) (defs : List Def) (l : Line) (old new : Position) : Type 0 where
  pub first : Path
  pub others : List Path
  pub branches_are : old.branches ≡ first ∷ others
  pub next : List Path
  pub instance : IsInstance flow defs (setting_at old) l first next
  pub come : new.branches ≡ next ++ others

-- the first branch is gone
abbrev pub IsFirstGone : Position → Position → Type 0
IsFirstGone old new = (b : Path) (others : List Path) → old.branches ≡ b ∷ others → new.branches ≡ others
