-- The steps by which a goal is made: each line can be read, and what comes of it is one step further.
use Rattle.std.specs.Prelude.{◌≡◌, ◌≤◌, ◌++◌, ◌-ℤ◌, ℕ, pos, List, [], ◌∷◌, Option, Some, Contains, None, length, map, slice_get}
use Rattle.mc_base.specs.declared.ids.EdgeId.{EdgeId}
use Rattle.mc_base.specs.declared.ids.NodeId.{NodeId}
use Rattle.mc_base.specs.declared.plain.Atom.TheVariants.{In}
use Rattle.mc_base.specs.declared.plain.Kind.{Kind}
use Rattle.mc_base.specs.declared.plain.Kind.TheVariants.{Ptr}
use Rattle.mc_base.specs.declared.plain.VarInfo.{VarInfo}
use Rattle.mc_base.specs.Nodes.{null}
use Rattle.mc_cover.specs.declared.goals.Goal.{Goal as Asked}
use Rattle.mc_cover.specs.declared.goals.Mark.TheVariants.{AtEnd, ByInd, BySeg, ByRule, ByCall}
use Rattle.mc_flow.specs.Defs.Conditions.{DefsFit}
use Rattle.mc_flow.specs.declared.defs.rules.Def.{Def}
use Rattle.mc_flow.specs.declared.defs.rules.Rule.{Rule}
use Rattle.mc_flow.specs.declared.defs.shapes.StructInfo.{StructInfo}
use Rattle.mc_rules_logic.specs.Fold.Changed.{ForgetsNode, NamesSpare}
use Rattle.mc_rules_logic.specs.Fold.Folded.{ClosesSeg, FoldsInd, ind_fold}
use Rattle.mc_rules_logic.specs.Fold.Goals.{MeetsGoal}
use Rattle.mc_state.specs.declared.graph.edge.Edge.{Edge}
use Rattle.mc_state.specs.Graph.Graph.{Edges}
use Rattle.mc_state.specs.Known.{Test, Tells}
use Rattle.mc_pure.specs.Pure.{HasKind, high_of, low_of}
use Rattle.mc_state.specs.declared.goal.Goal.{Goal}
use Rattle.mc_state.specs.declared.terms.Term.{Term}
use Rattle.mc_state.specs.Facts.{IsFalse}
use Rattle.mc_state.specs.Fits.{ArgsFit, IsBounded, IsWellMade}
use Rattle.mc_state.specs.State.{State, next_node}
use Rattle.mc_state.specs.Terms.{plain}
use Rattle.mc_follow.specs.declared.ending.met.Met.{Met}
use Rattle.mc_follow.specs.Ending.Ending.{AreNamed, IsGrown, IsNamed, Written}
use Rattle.mc_follow.specs.Ending.Making.{IsMaking, Opened, setting_in}

-- ---- what is made

-- a goal of a side branch, of the edges of a state, where a test tells what is entailed
pub record Task : Type 0 where
  pub know : Test
  pub before : State
  pub goal : Goal

-- its goal, as a cover is asked for it
abbrev pub asked_for : Goal → Asked
asked_for goal = record { pred = goal.pred; at = plain goal.at; args = map plain goal.args; stop = None }

-- it may be made: the state is well made and not false, and the goal fits it
pub record IsTask (structs : List StructInfo) (defs : List Def) (vars : List VarInfo) (w : Task) : Type 0 where
  pub fit : DefsFit structs defs
  pub made : IsWellMade defs vars structs w.before
  pub tells : Tells w.know w.before
  pub sound : IsFalse w.before → ⊥
  pub at : HasKind w.before.kinds Ptr w.goal.at
  pub args : ArgsFit defs w.before.kinds w.goal.pred w.goal.args

-- it is made as far as these marks are left, and these edges make the goals that are open
abbrev pub Makes : List Def → Task → State → List Met → List EdgeId → Type 0
Makes defs w s front ids = IsMaking w.know defs w.before (asked_for w.goal) s front ids

-- the last edge of the state makes one goal more
pub record MakesNext (defs : List Def) (w : Task) (s : State) (front : List Met) (ids : List EdgeId) : Type 0 where
  pub id : EdgeId
  pub edge : Edge
  pub older : Edges
  pub edges_are : s.graph.edges ≡ older ++ (id, edge) ∷ []
  pub makes : Makes defs w s front (id ∷ ids)

-- goals that the marks of the first cover meet are in order
abbrev pub AreOpened : List Def → Task → List Met → Type 0
AreOpened defs w front = Opened (setting_in w.know defs w.before) (asked_for w.goal) front []

-- ---- names

-- a term lies in the range of a kind, so a node of the kind may be named for it
abbrev pub MayBeNamed : State → Kind → Term → Type 0
MayBeNamed s kind t = HasKind s.kinds kind t.node × Written s (In t.node (low_of kind -ℤ t.add) (high_of kind -ℤ t.add))

-- so may each of some
abbrev pub AllMayBeNamed : State → List Kind → List Term → Type 0
AllMayBeNamed s [] [] = Unit {0}
AllMayBeNamed s [] (t ∷ ts) = ⊥
AllMayBeNamed s (kind ∷ kinds) [] = ⊥
AllMayBeNamed s (kind ∷ kinds) (t ∷ ts) = MayBeNamed s kind t × AllMayBeNamed s kinds ts

-- nodes were named, and nothing else has changed
pub record IsNamedOn (s u : State) : Type 0 where
  pub grown : IsGrown s u
  pub graph : u.graph ≡ s.graph

-- ---- steps

-- a rule can be applied, and whatever it gives is one state, of which something holds
abbrev pub Gives : (List State → Type 0) → (State → Type 0) → Type 0
Gives Rule Then = ((next : List State) × Rule next) × ((next : List State) → Rule next → (t : State) × (next ≡ t ∷ []) × Then t)

-- a node for zero is named, and forgotten, where the state is not false then: all that is known is written, and nothing is
-- made yet
abbrev pub KnownIsWritten : Type 0
KnownIsWritten =
    (structs : List StructInfo) (defs : List Def) (vars : List VarInfo) (w : Task) → IsTask structs defs vars w
    → (Contains (w.goal.at ∷ w.goal.args) (next_node w.before) → ⊥)
    × Gives (NamesSpare null (pos 0) Ptr w.before)
    (λ z. (IsFalse z → ⊥) → Gives (ForgetsNode (next_node w.before) z)
    (λ t. (front : List Met) → AreOpened defs w front → Makes defs w t front []))

-- a term that may be named gets a node
abbrev pub TermsAreNamed : Type 0
TermsAreNamed =
    (s : State) (kind : Kind) (t : Term) → IsBounded s → (IsFalse s → ⊥) → MayBeNamed s kind t
    → Gives (NamesSpare t.node t.add kind s) (λ u. IsNamedOn s u × IsNamed u kind t (next_node s))

-- a node alone has its own
abbrev pub NodesAreNamed : Type 0
NodesAreNamed = (s : State) (kind : Kind) (t : Term) → t.add ≡ pos 0 → MayBeNamed s kind t → IsNamed s kind t t.node

-- what is made stays so where nodes are named
abbrev pub NamesKeep : Type 0
NamesKeep =
    (structs : List StructInfo) (defs : List Def) (vars : List VarInfo) (w : Task) → IsTask structs defs vars w
    → (s u : State) (front : List Met) (ids : List EdgeId) → IsNamedOn s u → Makes defs w s front ids → Makes defs w u front ids

-- a goal is met by an Ind that is there
abbrev pub IndsAreThere : Type 0
IndsAreThere =
    (structs : List StructInfo) (defs : List Def) (vars : List VarInfo) (w : Task) → IsTask structs defs vars w
    → (s : State) (met : Met) (front : List Met) (ids : List EdgeId) (id : EdgeId) → met.mark ≡ ByInd id
    → Makes defs w s (met ∷ front) ids → Makes defs w s front (id ∷ ids)

-- a goal is met by a segment that is closed by the edge that was made last
abbrev pub SegsAreClosed : Type 0
SegsAreClosed =
    (structs : List StructInfo) (defs : List Def) (vars : List VarInfo) (w : Task) → IsTask structs defs vars w
    → (s : State) (met : Met) (front : List Met) (ids : List EdgeId) (id : EdgeId) → met.mark ≡ BySeg id
    → IsBounded s → (IsFalse s → ⊥) → Makes defs w s (met ∷ front) ids
    → (rest : EdgeId) × (left : List EdgeId) × (ids ≡ rest ∷ left) × Gives (ClosesSeg id rest s) (λ t. MakesNext defs w t front left)

-- where a goal is met by a rule, the rule is there, its names may be named, and its calls are made
abbrev pub RulesAreThere : Type 0
RulesAreThere =
    (structs : List StructInfo) (defs : List Def) (vars : List VarInfo) (w : Task) → IsTask structs defs vars w
    → (s : State) (met : Met) (front : List Met) (ids : List EdgeId) (place : ℕ) (block : Option EdgeId) → met.mark ≡ ByRule place block
    → Makes defs w s (met ∷ front) ids
    → (def : Def) × (rule : Rule) × (slice_get defs met.goal.pred.0 ≡ Some def) × (slice_get def.rules place ≡ Some rule)
    × AllMayBeNamed s rule.names met.names.items × (length rule.calls ≤ length ids)

-- and where nodes are named for them, it folds
abbrev pub RulesAreFolded : Type 0
RulesAreFolded =
    (structs : List StructInfo) (defs : List Def) (vars : List VarInfo) (w : Task) → IsTask structs defs vars w
    → (s : State) (met : Met) (front : List Met) (own ids : List EdgeId) (place : ℕ) (block : Option EdgeId) (def : Def) (rule : Rule)
    (nodes : List NodeId) → met.mark ≡ ByRule place block → slice_get defs met.goal.pred.0 ≡ Some def
    → slice_get def.rules place ≡ Some rule
    → IsBounded s → (IsFalse s → ⊥) → AreNamed s rule.names met.names.items nodes → length own ≡ length rule.calls
    → Makes defs w s (met ∷ front) (own ++ ids)
    → Gives (FoldsInd defs (ind_fold met.goal.pred place nodes block own) s) (λ t. MakesNext defs w t front ids)

-- no goal is met by a mark of a segment
abbrev pub NoOtherMarks : Type 0
NoOtherMarks =
    (structs : List StructInfo) (defs : List Def) (vars : List VarInfo) (w : Task) → IsTask structs defs vars w
    → (s : State) (met : Met) (front : List Met) (ids : List EdgeId) → Makes defs w s (met ∷ front) ids
    → (met.mark ≡ AtEnd → ⊥) × ((place : ℕ) (block : Option EdgeId) (call : ℕ) → met.mark ≡ ByCall place block call → ⊥)

-- where no mark is left, one edge meets the goal
abbrev pub GoalsAreMet : Type 0
GoalsAreMet =
    (structs : List StructInfo) (defs : List Def) (vars : List VarInfo) (w : Task) → IsTask structs defs vars w
    → (s : State) (ids : List EdgeId) → (IsFalse s → ⊥) → Makes defs w s [] ids
    → (id : EdgeId) × (ids ≡ id ∷ []) × MeetsGoal w.goal id s

-- all of it
pub record GoalsAreMade : Type 0 where
  pub known : KnownIsWritten
  pub name : TermsAreNamed
  pub alone : NodesAreNamed
  pub keep : NamesKeep
  pub ind : IndsAreThere
  pub seg : SegsAreClosed
  pub rule : RulesAreThere
  pub fold : RulesAreFolded
  pub other : NoOtherMarks
  pub met : GoalsAreMet
