-- Which lines are instances of the rules.
use Rattle.std.specs.Prelude.{◌≡◌, ℕ, List, [], ◌∷◌, ◌++◌, false, Option, Some, None, Contains, map, option_map, slice_get}
use Rattle.mc_base.specs.declared.ids.EdgeId.{EdgeId}
use Rattle.mc_base.specs.declared.ids.NodeId.{NodeId}
use Rattle.mc_flow.specs.declared.defs.rules.Def.{Def}
use Rattle.mc_flow.specs.declared.graph.Flow.{Flow}
use Rattle.mc_flow.specs.declared.instr.Instr.{Instr}
use Rattle.mc_flow.specs.declared.instr.Instr.TheVariants as instr
use Rattle.mc_state.specs.declared.goal.Goal.{Goal}
use Rattle.mc_state.specs.declared.line.InstrRule.{InstrRule}
use Rattle.mc_lines.specs.declared.cert.line.Line.{Line}
use Rattle.mc_lines.specs.declared.cert.line.Line.TheVariants.{Header, Cut, Head, Pass, End, Step, L1, L2, L3, L4, L5, L6, L7, L8, L9, L10}
use Rattle.mc_lines.specs.declared.cert.line.Line.TheVariants.{L11, L12, L13, L14, L15, C1, C2, C3}
use Rattle.mc_state.specs.State.{State, var_node}
use Rattle.mc_state.specs.Facts.{IsFalse}
use Rattle.mc_rules_logic.specs.Unfold.Unfolded.{UnfoldsInd, UnfoldsSeg}
use Rattle.mc_rules_logic.specs.Back.Unfolded.{UnfoldsBack}
use Rattle.mc_rules_logic.specs.Fold.Folded.{FoldsInd, FoldsSeg, ClosesSeg, JoinsSegs, MakesEmptySeg}
use Rattle.mc_rules_logic.specs.Fold.Changed.{NamesSpare, MergesNodes, DropsEdge, ForgetsNode}
use Rattle.mc_rules_logic.specs.Fold.Goals.{MeetsGoal}
use Rattle.mc_rules_steps.specs.declared.gap.Gap.{Gap}
use Rattle.mc_rules_steps.specs.Next.{Next}
use Rattle.mc_rules_steps.specs.Operands.{code_at, operand_node}
use Rattle.mc_rules_steps.specs.Steps.{StepIs}
use Rattle.mc_rules_steps.specs.Unmet.{IsUnmet}
use Rattle.mc_kernel.specs.Branches.{Path, Setting, MayStep, MayCut, IsPlain, IsChain, closes_by, path_of, with_state, merged_goal, states_at}
use Rattle.mc_kernel.specs.Jumps.{Jumps}

-- the node that the instruction at the branch's point accesses, where it is known and the branch is no side branch
abbrev pub accessed_by : State → Option Instr → Option NodeId
accessed_by s None = None
accessed_by s (Some (instr.Load x y shape f q)) = var_node s y
accessed_by s (Some (instr.Store y shape f o q)) = var_node s y
accessed_by s (Some (instr.Free o q)) = operand_node s o
accessed_by s (Some code) = None

-- none on a side branch
abbrev pub accessed_outside : Option Goal → Option NodeId → Option NodeId
accessed_outside None n = n
accessed_outside (Some goal) n = None

-- the node that is accessed at a branch's point
abbrev pub accessed : Flow → Path → Option NodeId
accessed flow b = accessed_outside b.goal (accessed_by b.state (code_at flow b.point))

-- a rule of instructions, where it may stand
abbrev pub ByStep : InstrRule → Flow → Setting → Path → List Path → Type 0
ByStep rule flow g b next = MayStep g b × ((steps : List Next) × StepIs rule flow b.point b.state steps × (next ≡ map path_of steps))

-- a rule of logic that unfolds: not where the branch is closing
abbrev pub ByUnfolding : (State → List State → Type 0) → Path → List Path → Type 0
ByUnfolding Rule b next = (b.closing ≡ false) × ((states : List State) × Rule b.state states × (next ≡ map (with_state b) states))

-- a rule of logic that folds, from L3 to L8: in a chain the branch closes
abbrev pub ByFolding : (State → List State → Type 0) → Setting → Path → List Path → Type 0
ByFolding Rule g b next =
    (states : List State) × Rule b.state states
    × (next ≡ map
    (λ s. record
    { point = b.point; state = s; goal = b.goal; moved = b.moved; closing = closes_by g.form b.goal b.closing }) states)

-- another rule of logic: everywhere
abbrev pub ByLogic : (State → List State → Type 0) → Path → List Path → Type 0
ByLogic Rule b next = (states : List State) × Rule b.state states × (next ≡ map (with_state b) states)

-- L9 also renames the goal of a side branch
abbrev pub ByMerging : NodeId → NodeId → Path → List Path → Type 0
ByMerging keep gone b next =
    (states : List State) × MergesNodes keep gone b.state states
    × (next ≡ map
    (λ s. record {
      point = b.point;
      state = s;
      goal = option_map
          (merged_goal keep gone) b.goal;
      moved = b.moved;
      closing = b.closing;
    }) states)

-- the goal of a side branch does not name the node
abbrev pub GoalNamesNot : NodeId → Option Goal → Type 0
GoalNamesNot n None = Unit {0}
GoalNamesNot n (Some goal) = Contains (goal.at ∷ goal.args) n → ⊥

-- L12: the state is false, and the branch ends
abbrev pub EndsFalse : Path → List Path → Type 0
EndsFalse b next = (b.closing ≡ false) × IsFalse b.state × (next ≡ [])

-- L13: the state jumps to one of the cut's
pub record JumpsTo (g : Setting) (j : ℕ) (images : List NodeId) (edges : List EdgeId) (b : Path) (next : List Path) : Type 0 where
  pub may : MayCut g b
  pub consistent : IsFalse b.state → ⊥
  pub head : State
  pub there : slice_get (states_at b.point g.heads) j ≡ Some head
  pub jumps : Jumps b.state head images edges
  pub gives : next ≡ []

-- L14: an Ind meets the goal of a side branch, which ends
pub record EndsSide (edge : EdgeId) (b : Path) (next : List Path) : Type 0 where
  pub goal : Goal
  pub side : b.goal ≡ Some goal
  pub meets : MeetsGoal goal edge b.state
  pub gives : next ≡ []

-- C1: in a chain, at no side branch, the instruction is unmet, and the branch ends
pub record IsStuck (flow : Flow) (defs : List Def) (g : Setting) (b : Path) (next : List Path) : Type 0 where
  pub chain : IsChain g
  pub plain : IsPlain b
  pub open_still : b.closing ≡ false
  pub gap : Gap
  pub unmet : IsUnmet flow defs b.point b.state gap
  pub gives : next ≡ []

-- the line is an instance at the branch, and these branches come of it
abbrev pub IsInstance : Flow → List Def → Setting → Line → Path → List Path → Type 0
IsInstance flow defs g (Step rule) b next = ByStep rule flow g b next
IsInstance flow defs g (L1 edge) b next = ByUnfolding (UnfoldsInd defs (accessed flow b) edge) b next
IsInstance flow defs g (L2 edge) b next = ByUnfolding (UnfoldsSeg defs (accessed flow b) edge) b next
IsInstance flow defs g (L3 fold) b next = ByFolding (FoldsInd defs fold) g b next
IsInstance flow defs g (L4 fold) b next = ByFolding (FoldsSeg defs fold) g b next
IsInstance flow defs g (L5 first second) b next = ByFolding (ClosesSeg first second) g b next
IsInstance flow defs g (L6 first second) b next = ByFolding (JoinsSegs first second) g b next
IsInstance flow defs g (L7 pred at args stop ends) b next = ByFolding (MakesEmptySeg defs pred at args stop ends) g b next
IsInstance flow defs g (L8 node add kind) b next = ByFolding (NamesSpare node add kind) g b next
IsInstance flow defs g (L9 keep gone) b next = ByMerging keep gone b next
IsInstance flow defs g (L10 edge) b next = ByLogic (DropsEdge edge) b next
IsInstance flow defs g (L11 node) b next = GoalNamesNot node b.goal × ByLogic (ForgetsNode node) b next
IsInstance flow defs g L12 b next = EndsFalse b next
IsInstance flow defs g (L13 j images edges) b next = JumpsTo g j images edges b next
IsInstance flow defs g (L14 edge) b next = EndsSide edge b next
IsInstance flow defs g (L15 edge) b next = ByUnfolding (UnfoldsBack defs (accessed flow b) edge) b next
IsInstance flow defs g C1 b next = IsStuck flow defs g b next
IsInstance flow defs g (Header version form) b next = ⊥
IsInstance flow defs g (Cut p) b next = ⊥
IsInstance flow defs g (Head p raw) b next = ⊥
IsInstance flow defs g Pass b next = ⊥
IsInstance flow defs g End b next = ⊥
IsInstance flow defs g (C2 tries) b next = ⊥
IsInstance flow defs g (C3 j steps) b next = ⊥

-- a line that marks its branch as stuck
abbrev pub stuck_by : Line → Path → List Path → List Path
stuck_by C1 b later = b ∷ later
stuck_by line b later = later

-- the lines, read depth first, are instances at the open branches and end them all; these branches are stuck
abbrev pub Reads : Flow → List Def → Setting → List Line → List Path → List Path → Type 0
Reads flow defs g [] bs stuck = (bs ≡ []) × (stuck ≡ [])
Reads flow defs g (line ∷ lines) [] stuck = ⊥
Reads flow defs g (line ∷ lines) (b ∷ bs) stuck =
    (next : List Path) × (later : List Path) × IsInstance flow defs g line b next
    × Reads flow defs g lines (next ++ bs) later × (stuck ≡ stuck_by line b later)
