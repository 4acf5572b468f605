-- Shapes that instructions lack.
use Rattle.std.specs.Prelude.{List, map}
use Rattle.mc_base.specs.declared.ids.NodeId.{NodeId}
use Rattle.mc_base.specs.declared.ids.PredId.{PredId}
use Rattle.mc_base.specs.declared.plain.Kind.{Kind}
use Rattle.mc_base.specs.declared.plain.VarInfo.{VarInfo}
use Rattle.mc_flow.specs.declared.defs.rules.Def.{Def}
use Rattle.mc_flow.specs.declared.defs.shapes.Structs.{Structs}
use Rattle.mc_flow.specs.declared.instr.Instr.{Instr}
use Rattle.mc_flow.specs.declared.instr.Operand.{Operand}
use Rattle.mc_flow.specs.Valid.{ArgsFit, FitsKinds}
use Rattle.mc_state.specs.Graph.Graph.{Edges}
use Rattle.mc_state.specs.Covers.{Cover}
use Rattle.mc_state.specs.State.{State}
use Rattle.mc_state.specs.Terms.{plain}
use Rattle.mc_rules_steps.specs.declared.gap.Gap.{Gap}
use Rattle.mc_rules_steps.specs.declared.gap.Gap.TheVariants.{Uninit, NoBlock, Reached, NoShape, UninitField, NotEmpty}
use Rattle.mc_rules_steps.specs.Unmet.{IsGap}

-- no edges of the state make the predicate at a node with arguments
abbrev pub HasNoCover : List Def → State → PredId → NodeId → List NodeId → Type 0
HasNoCover defs s pred n args = (left : Edges) → Cover defs s pred (plain n) (map plain args) s.graph.edges left → ⊥

-- the operands fit some variables, each by a kind
pub record AreOperands (os : List Operand) : Type 0 where
  pub vars : List VarInfo
  pub kinds : List Kind
  pub fit : ArgsFit vars os kinds

-- the instruction is one of a program with these definitions
pub record IsOfProgram (defs : List Def) (code : Instr) : Type 0 where
  pub vars : List VarInfo
  pub structs : Structs
  pub kinds : FitsKinds vars structs defs code

-- the gap is a shape
abbrev pub IsShape : Gap → Type 0
IsShape (Uninit x) = ⊥
IsShape (NoBlock n) = ⊥
IsShape Reached = ⊥
IsShape (NoShape pred n) = Unit {0}
IsShape (UninitField n f) = ⊥
IsShape (NotEmpty flag) = ⊥

-- the instruction lacks a shape
abbrev pub IsShapeGap : List Def → Instr → State → Gap → Type 0
IsShapeGap defs code s gap = IsGap defs code s gap × IsShape gap
