-- The nodes of operands.
use Rattle.std.specs.Prelude.{◌≡◌, List, [], ◌∷◌, pos, Option, Some, option_map, if◌then◌else◌}
use Rattle.std.specs.Ordering.{int_eq}
use Rattle.mc_base.specs.declared.ids.NodeId.{NodeId}
use Rattle.mc_base.specs.declared.ids.PointId.{PointId}
use Rattle.mc_base.specs.declared.ids.StructId.{StructId}
use Rattle.mc_base.specs.declared.ids.EdgeId.{EdgeId}
use Rattle.mc_base.specs.Nodes.{null}
use Rattle.std.specs.Prelude.{slice_get}
use Rattle.mc_flow.specs.declared.graph.Flow.{Flow}
use Rattle.mc_flow.specs.declared.instr.Instr.{Instr}
use Rattle.mc_flow.specs.declared.instr.Operand.{Operand}
use Rattle.mc_flow.specs.declared.instr.Operand.TheVariants.{Var, Const}
use Rattle.mc_state.specs.declared.graph.edge.Edge.TheVariants.{Block}
use Rattle.mc_state.specs.Graph.Graph.{edge_with}
use Rattle.mc_state.specs.State.{State, var_node, next_node, with_number}
use Rattle.mc_state.specs.Facts.{AreEqual}

-- the instruction at a point
abbrev pub code_at : Flow → PointId → Option Instr
code_at flow p = option_map (λ point. point.code) (slice_get flow.points p.0)

-- the operand's node, where it is known: node 0 for the constant 0, and the next node for another constant
abbrev pub operand_node : State → Operand → Option NodeId
operand_node s (Var x) = var_node s x
operand_node s (Const c) = Some (if int_eq c (pos 0) then null else next_node s)

-- the state in which that node stands
abbrev pub with_operand : State → Operand → State
with_operand s (Var x) = s
with_operand s (Const c) = if int_eq c (pos 0) then s else with_number s c

-- the state in which the nodes of operands stand, made from left to right
abbrev pub with_operands : State → List Operand → State
with_operands s [] = s
with_operands s (o ∷ os) = with_operands (with_operand s o) os

-- the operands have these nodes
abbrev pub AreNodesOf : State → List Operand → List NodeId → Type 0
AreNodesOf s [] [] = Unit {0}
AreNodesOf s (o ∷ os) (n ∷ ns) = (operand_node s o ≡ Some n) × AreNodesOf (with_operand s o) os ns
AreNodesOf s [] (n ∷ ns) = ⊥
AreNodesOf s (o ∷ os) [] = ⊥

-- a block of a struct lies at a node that is equal: its edge, its start and its fields
pub record HasBlock (s : State) (n : NodeId) (shape : StructId) : Type 0 where
  pub id : EdgeId
  pub at : NodeId
  pub fields : List (Option NodeId)
  pub there : edge_with s.graph.edges id ≡ Some (Block at shape fields)
  pub equal : AreEqual s n at
