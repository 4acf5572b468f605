-- What instructions lack at states.
use Rattle.std.specs.Prelude.{◌≡◌, ◌⊎◌, ℕ, List, [], ◌∷◌, Bool, true, Some, None, map, slice_get}
use Rattle.mc_base.specs.declared.ids.EdgeId.{EdgeId}
use Rattle.mc_base.specs.declared.ids.NodeId.{NodeId}
use Rattle.mc_base.specs.declared.ids.PointId.{PointId}
use Rattle.mc_base.specs.declared.ids.PredId.{PredId}
use Rattle.mc_base.specs.declared.ids.StructId.{StructId}
use Rattle.mc_base.specs.declared.ids.VarId.{VarId}
use Rattle.mc_base.specs.Nodes.{null}
use Rattle.mc_flow.specs.declared.defs.rules.Def.{Def}
use Rattle.mc_flow.specs.declared.graph.Flow.{Flow}
use Rattle.mc_flow.specs.declared.instr.Operand.{Operand}
use Rattle.mc_flow.specs.declared.instr.Operand.TheVariants.{Var, Const}
use Rattle.mc_flow.specs.declared.instr.Instr.{Instr}
use Rattle.mc_flow.specs.declared.instr.Instr.TheVariants.{Skip, Copy, Undef, Input, Add, Sub, Mul, Load, Store, Malloc, Free, TestEq, TestLe, AssumeShape, AssertShape, AssertEmpty, End, Fail}
use Rattle.mc_state.specs.declared.graph.edge.Edge.{Edge}
use Rattle.mc_state.specs.declared.graph.edge.Edge.TheVariants.{Block, Ind, Seg}
use Rattle.mc_state.specs.Graph.Edges.{start_of}
use Rattle.mc_state.specs.Graph.Graph.{Edges}
use Rattle.mc_state.specs.Back.{IsBackPosition}
use Rattle.mc_state.specs.State.{State, var_node}
use Rattle.mc_state.specs.Facts.{IsFalse, AreEqual}
use Rattle.mc_state.specs.Terms.{plain}
use Rattle.mc_state.specs.Covers.{Cover}
use Rattle.mc_rules_steps.specs.declared.gap.Gap.{Gap}
use Rattle.mc_rules_steps.specs.declared.gap.Gap.TheVariants.{Uninit, NoBlock, Reached, NoShape, UninitField, NotEmpty}
use Rattle.mc_rules_steps.specs.Operands.{code_at, operand_node, with_operand, with_operands, AreNodesOf, HasBlock}

-- what an instruction takes, in the order of its premises: operands, arguments, and the base of an access last
abbrev pub taken : Instr → List Operand
taken (Skip q) = []
taken (Copy x o q) = o ∷ []
taken (Undef xs q) = []
taken (Input x q) = []
taken (Add x o p q) = o ∷ p ∷ []
taken (Sub x o p q) = o ∷ p ∷ []
taken (Mul x o p q) = o ∷ p ∷ []
taken (Load x y s f q) = Var y ∷ []
taken (Store y s f o q) = o ∷ Var y ∷ []
taken (Malloc x s q) = []
taken (Free o q) = o ∷ []
taken (TestEq o p t f) = o ∷ p ∷ []
taken (TestLe o p t f) = o ∷ p ∷ []
taken (AssumeShape pred x os q) = os
taken (AssertShape pred o os q) = o ∷ os
taken (AssertEmpty q) = []
taken End = []
taken Fail = []

-- a variable is the first that is taken and not known
abbrev pub IsFirstUnknown : State → List Operand → VarId → Type 0
IsFirstUnknown s [] x = ⊥
IsFirstUnknown s (Var y ∷ os) x = ((var_node s y ≡ None) × (x ≡ y)) ⊎ ((n : NodeId) × (var_node s y ≡ Some n) × IsFirstUnknown s os x)
IsFirstUnknown s (Const c ∷ os) x = IsFirstUnknown s os x

-- every one is known
abbrev pub AreKnown : State → List Operand → Type 0
AreKnown s [] = Unit {0}
AreKnown s (Var y ∷ os) = ((n : NodeId) × (var_node s y ≡ Some n)) × AreKnown s os
AreKnown s (Const c ∷ os) = AreKnown s os

-- the edge is an Ind or a Seg, which may be unfolded
abbrev pub IsSummary : Edge → Type 0
IsSummary (Block at shape fields) = ⊥
IsSummary (Ind at pred args) = Unit {0}
IsSummary (Seg at args pred «end» ends) = Unit {0}

-- no Ind or Seg starts at a node that is equal
abbrev pub NoSummaryAt : State → NodeId → Type 0
NoSummaryAt s n =
    (place : ℕ) (id : EdgeId) (e : Edge) → slice_get s.graph.edges place ≡ Some (id, e) → IsSummary e → AreEqual s n (start_of e) → ⊥

-- no Seg has at a back position of its predicate an end argument that is equal, by which it may be unfolded
abbrev pub NoBackAt : List Def → State → NodeId → Type 0
NoBackAt defs s n =
    (place : ℕ) (id : EdgeId) (at «end» : NodeId) (args ends : List NodeId) (pred : PredId) (i : ℕ) (other : NodeId)
    → slice_get s.graph.edges place ≡ Some (id, Seg at args pred «end» ends)
    → IsBackPosition defs pred i → slice_get ends i ≡ Some other → AreEqual s n other → ⊥

-- no block of the struct lies at the node, nor may one be unfolded there
pub record LacksBlock (defs : List Def) (s : State) (n : NodeId) (shape : StructId) : Type 0 where
  pub block : HasBlock s n shape → ⊥
  pub start : NoSummaryAt s n
  pub back : NoBackAt defs s n

-- the base is known, and no block of the struct lies there
abbrev pub LacksAccess : List Def → State → VarId → StructId → NodeId → Type 0
LacksAccess defs s y shape n = (var_node s y ≡ Some n) × LacksBlock defs s n shape

-- a field of the block at the base is not known
abbrev pub LacksField : State → VarId → StructId → ℕ → NodeId → ℕ → Type 0
LacksField s y shape f n g = (var_node s y ≡ Some n) × (g ≡ f) × ((block : HasBlock s n shape) × (slice_get block.fields f ≡ Some None))

-- what is freed is known, is not null, and no block lies there
abbrev pub LacksFreed : List Def → State → Operand → NodeId → Type 0
LacksFreed defs s o n =
    (operand_node s o ≡ Some n) × (AreEqual (with_operand s o) n null → ⊥)
    × ((shape : StructId) → LacksBlock defs (with_operand s o) n shape)

-- no edges make the predicate at the operand
abbrev pub LacksShape : List Def → State → PredId → Operand → List Operand → PredId → NodeId → Type 0
LacksShape defs s pred o os own n =
    (own ≡ pred) × (operand_node s o ≡ Some n)
    × ((args : List NodeId) → AreNodesOf (with_operand s o) os args → (left : Edges)
    → Cover defs (with_operands (with_operand s o) os) pred (plain n) (map plain args) s.graph.edges left → ⊥)

-- the edges may not be all that is allocated, or one of them does not start at null
abbrev pub LacksEmptiness : State → Bool → Type 0
LacksEmptiness s flag =
    (flag ≡ s.whole)
    × ((s.whole ≡ true → ⊥)
    ⊎ ((place : ℕ) × (id : EdgeId) × (e : Edge) × (slice_get s.graph.edges place ≡ Some (id, e)) × (AreEqual s (start_of e) null → ⊥)))

-- what an instruction lacks where all that it takes is known
abbrev pub Lacks : List Def → Instr → State → Gap → Type 0
Lacks defs code s (Uninit x) = ⊥
Lacks defs (Load x y shape f q) s (NoBlock n) = LacksAccess defs s y shape n
Lacks defs (Store y shape f o q) s (NoBlock n) = LacksAccess defs s y shape n
Lacks defs (Free o q) s (NoBlock n) = LacksFreed defs s o n
Lacks defs (Load x y shape f q) s (UninitField n g) = LacksField s y shape f n g
Lacks defs (AssertShape pred o os q) s (NoShape own n) = LacksShape defs s pred o os own n
Lacks defs Fail s Reached = Unit {0}
Lacks defs (AssertEmpty q) s (NotEmpty flag) = LacksEmptiness s flag
Lacks defs code s gap = ⊥

-- a variable is not known, or, where all are, the instruction lacks something else
abbrev pub IsGap : List Def → Instr → State → Gap → Type 0
IsGap defs code s (Uninit x) = IsFirstUnknown s (taken code) x
IsGap defs code s (NoBlock n) = AreKnown s (taken code) × Lacks defs code s (NoBlock n)
IsGap defs code s Reached = AreKnown s (taken code) × Lacks defs code s Reached
IsGap defs code s (NoShape pred n) = AreKnown s (taken code) × Lacks defs code s (NoShape pred n)
IsGap defs code s (UninitField n f) = AreKnown s (taken code) × Lacks defs code s (UninitField n f)
IsGap defs code s (NotEmpty flag) = AreKnown s (taken code) × Lacks defs code s (NotEmpty flag)

-- the instruction at the point is unmet at the state, which is not false
pub record IsUnmet (flow : Flow) (defs : List Def) (p : PointId) (s : State) (gap : Gap) : Type 0 where
  pub consistent : IsFalse s → ⊥
  pub code : Instr
  pub at : code_at flow p ≡ Some code
  pub lacks : IsGap defs code s gap
