-- Side branches that are being ended.
use Rattle.std.specs.Prelude.{◌≡◌, ◌↔◌, ◌++◌, Bool, true, false, List, [], ◌∷◌, Option, Some, None, IsTrue, map, reverse}
use Rattle.mc_base.specs.declared.ids.EdgeId.{EdgeId}
use Rattle.mc_base.specs.declared.ids.NodeId.{NodeId}
use Rattle.mc_base.specs.declared.plain.Kind.{Kind}
use Rattle.mc_cover.specs.First.{first_cover}
use Rattle.mc_flow.specs.declared.defs.rules.Def.{Def}
use Rattle.mc_follow.specs.declared.ending.met.Met.{Met}
use Rattle.mc_follow.specs.Ending.Ending.{AreNamed, IsNamed}
use Rattle.mc_follow.specs.Ending.Making.{Opened, setting_in}
use Rattle.mc_follow.specs.Ending.Steps.{AllMayBeNamed, AreOpened, IsNamedOn, IsTask, Makes, MayBeNamed, Task, asked_for}
use Rattle.mc_flow.specs.declared.graph.Flow.{Flow}
use Rattle.mc_rules_logic.specs.Fold.Goals.{MeetsGoal}
use Rattle.mc_state.specs.declared.graph.edge.Edge.{Edge}
use Rattle.mc_state.specs.Graph.Graph.{Edges}
use Rattle.mc_kernel.specs.Branches.{Path}
use Rattle.mc_state.specs.Known.{Test, Tells}
use Rattle.mc_document.specs.Proof.Positions.{Position}
use Rattle.mc_state.specs.declared.goal.Goal.{Goal}
use Rattle.mc_state.specs.declared.terms.Term.{Term}
use Rattle.mc_state.specs.Facts.{IsFalse}
use Rattle.mc_state.specs.State.{State}
use Rattle.mc_state.specs.Terms.{plain}

-- ---- the first branch

-- the first branch is a side branch with this goal and this state, and these are after it
pub record IsSide (p : Position) (goal : Goal) (s : State) (others : List Path) : Type 0 where
  pub first : Path
  pub branches_are : p.branches ≡ first ∷ others
  pub goal_is : first.goal ≡ Some goal
  pub state_is : first.state ≡ s

-- whether the state of the side branch is false
abbrev pub TellsFalse : Position → Bool → Type 0
TellsFalse p answer = (goal : Goal) (s : State) (others : List Path) → IsSide p goal s others → IsTrue answer ↔ IsFalse s

-- whether it is not
abbrev pub TellsSound : Position → Bool → Type 0
TellsSound p answer = (goal : Goal) (s : State) (others : List Path) → IsSide p goal s others
    → (answer ≡ true → IsFalse s → ⊥) × (answer ≡ false → IsFalse s)

-- it is not false
abbrev pub IsSound : Position → Type 0
IsSound p = (goal : Goal) (s : State) (others : List Path) → IsSide p goal s others → IsFalse s → ⊥

-- the last edge of its state, where there is one
abbrev pub IsLastEdge : Position → Option EdgeId → Type 0
IsLastEdge p answer =
    (goal : Goal) (s : State) (others : List Path) (older : Edges) (id : EdgeId) (e : Edge) → IsSide p goal s others
    → s.graph.edges ≡ older ++ (id, e) ∷ [] → answer ≡ Some id

-- that edge is put after others
abbrev pub PushesLast : Position → List EdgeId → List EdgeId → Type 0
PushesLast p old new =
    (goal : Goal) (s : State) (others : List Path) (older : Edges) (id : EdgeId) (e : Edge) → IsSide p goal s others
    → s.graph.edges ≡ older ++ (id, e) ∷ [] → new ≡ old ++ id ∷ []

-- its state's next node
abbrev pub IsNextNode : Position → Option NodeId → Type 0
IsNextNode p answer = (goal : Goal) (s : State) (others : List Path) → IsSide p goal s others → answer ≡ Some (record { 0 = s.next })

-- it is false
pub record IsWrong (p : Position) (others : List Path) : Type 0 where
  pub goal : Goal
  pub state : State
  pub side : IsSide p goal state others
  pub wrong : IsFalse state

-- an edge meets its goal
pub record IsDone (p : Position) (others : List Path) (edge : EdgeId) : Type 0 where
  pub goal : Goal
  pub state : State
  pub side : IsSide p goal state others
  pub meets : MeetsGoal goal edge state

-- ---- names

-- a term may be named there
pub record IsToName (goal : Goal) (s : State) (others : List Path) (p : Position) (kind : Kind) (t : Term) : Type 0 where
  pub side : IsSide p goal s others
  pub consistent : IsFalse s → ⊥
  pub may : MayBeNamed s kind t

abbrev pub MayName : Position → Kind → Term → Type 0
MayName p kind t = (goal : Goal) × (s : State) × (others : List Path) × IsToName goal s others p kind t

-- so may each of some
pub record AreToName (goal : Goal) (s : State) (others : List Path) (p : Position) (kinds : List Kind) (ts : List Term) : Type 0 where
  pub side : IsSide p goal s others
  pub consistent : IsFalse s → ⊥
  pub may : AllMayBeNamed s kinds ts

abbrev pub MayNameAll : Position → List Kind → List Term → Type 0
MayNameAll p kinds ts = (goal : Goal) × (s : State) × (others : List Path) × AreToName goal s others p kinds ts

-- nodes were named, and the state is not false
pub record IsNamedSide (p : Position) (goal : Goal) (before s : State) (others : List Path) : Type 0 where
  pub side : IsSide p goal s others
  pub consistent : IsFalse s → ⊥
  pub on : IsNamedOn before s

-- the term has a node, or the state is false
abbrev pub HasName : Position → Position → Kind → Term → Option NodeId → Type 0
HasName old new kind t None = (goal : Goal) (s : State) (others : List Path) → IsToName goal s others old kind t → IsWrong new others
HasName old new kind t (Some n) =
    (goal : Goal) (s : State) (others : List Path) → IsToName goal s others old kind t → (u : State)
    × IsNamedSide new goal s u others × IsNamed u kind t n

-- each term has one, or the state is false
abbrev pub HaveNames : Position → Position → List Kind → List Term → Option (List NodeId) → Type 0
HaveNames old new kinds ts None = (goal : Goal) (s : State) (others : List Path) → AreToName goal s others old kinds ts → IsWrong new others
HaveNames old new kinds ts (Some ns) =
    (goal : Goal) (s : State) (others : List Path) → AreToName goal s others old kinds ts
    → (u : State) × IsNamedSide new goal s u others × AreNamed u kinds ts ns

-- ---- what is made

-- its goal may be made: nothing is done yet
pub record IsBegun (flow : Flow) (defs : List Def) (w : Task) (others : List Path) (p : Position) : Type 0 where
  pub side : IsSide p w.goal w.before others
  pub task : IsTask flow.structs.list defs flow.vars w

-- its goal is made as far as these marks are left, and these edges make the goals that are open
pub record IsUnderway (flow : Flow) (defs : List Def) (w : Task) (others : List Path) (p : Position)
    (front : List Met) (ids : List EdgeId) : Type 0 where
  pub state : State
  pub side : IsSide p w.goal state others
  pub task : IsTask flow.structs.list defs flow.vars w
  pub consistent : IsFalse state → ⊥
  pub makes : Makes defs w state front ids

-- it is, or the state is false
abbrev pub GoesOn : Flow → List Def → Task → List Path → Position → List Met → List EdgeId → Bool → Type 0
GoesOn flow defs w others p front ids true = IsUnderway flow defs w others p front ids
GoesOn flow defs w others p front ids false = IsWrong p others

-- a mark is left
pub record IsAtMark (flow : Flow) (defs : List Def) (p : Position) (met : Met) (ids : List EdgeId) : Type 0 where
  pub w : Task
  pub others : List Path
  pub front : List Met
  pub underway : IsUnderway flow defs w others p (met ∷ front) ids

-- it is left no longer
abbrev pub IsMarkMet : Flow → List Def → Met → Position → List EdgeId → Position → List EdgeId → Bool → Type 0
IsMarkMet flow defs met old ids new more on =
    (w : Task) (others : List Path) (front : List Met) → IsUnderway flow defs w others old (met ∷ front) ids
    → GoesOn flow defs w others new front more on

-- marks are left
pub record IsAtMarks (flow : Flow) (defs : List Def) (p : Position) (front : List Met) (ids : List EdgeId) : Type 0 where
  pub w : Task
  pub others : List Path
  pub underway : IsUnderway flow defs w others p front ids

-- and then none is
abbrev pub AreMarksMet : Flow → List Def → List Met → Position → List EdgeId → Position → List EdgeId → Bool → Type 0
AreMarksMet flow defs front old ids new more on =
    (w : Task) (others : List Path) → IsUnderway flow defs w others old front ids → GoesOn flow defs w others new [] more on

-- a goal may be made
pub record IsAtGoal (flow : Flow) (defs : List Def) (p : Position) : Type 0 where
  pub w : Task
  pub others : List Path
  pub begun : IsBegun flow defs w others p

-- all that is known is written
abbrev pub IsKnownWritten : Flow → List Def → Position → Position → Bool → Type 0
IsKnownWritten flow defs old new on =
    (w : Task) (others : List Path) (front : List Met) → IsBegun flow defs w others old → AreOpened defs w front
    → GoesOn flow defs w others new front [] on

-- the goals that the marks of the first cover of a goal in a state meet, in order; none where there is no cover
abbrev pub IsCoverFound : List Def → State → Goal → Option (List Met) → Type 0
IsCoverFound defs s goal None =
    (know : Test) → Tells know s → first_cover know defs goal.pred (plain goal.at) (map plain goal.args) s.graph.edges ≡ None
IsCoverFound defs s goal (Some mets) = (know : Test) → Tells know s → Opened (setting_in know defs s) (asked_for goal) (reverse mets) []

-- the goals that the marks of the first cover of its goal meet, the last one first
abbrev pub AreMetsOf : List Def → Position → List Met → Type 0
AreMetsOf defs p front = (goal : Goal) (s : State) (others : List Path) (know : Test) → IsSide p goal s others
    → Tells know s → Opened (setting_in know defs s) (asked_for goal) front []

-- an edge meets its goal, or the state is false
abbrev pub HasMet : Position → Position → Option EdgeId → Type 0
HasMet old new None = (goal : Goal) (s : State) (others : List Path) → IsSide old goal s others → IsWrong new others
HasMet old new (Some edge) = (goal : Goal) (s : State) (others : List Path) → IsSide old goal s others → IsDone new others edge
