-- Operands that are read.
use Rattle.std.specs.Prelude.{◌≡◌, List, Option, Some, None}
use Rattle.mc_base.specs.declared.ids.NodeId.{NodeId}
use Rattle.mc_base.specs.declared.plain.Kind.{Kind}
use Rattle.mc_base.specs.declared.plain.VarInfo.{VarInfo}
use Rattle.mc_flow.specs.declared.instr.Operand.{Operand}
use Rattle.mc_flow.specs.Valid.{IsOperand}
use Rattle.mc_pure.specs.Pure.{IsBound}
use Rattle.mc_state.specs.State.{State, next_node, with_number}
use Rattle.mc_rules_steps.specs.Operands.{operand_node, with_operand}
use Rattle.mc_apply_steps.specs.declared.step.operands.Value.{Value}
use Rattle.mc_apply_steps.specs.declared.step.operands.Value.TheVariants.{Node, Number}

-- the node of a value: a number gets the next one
abbrev pub value_node : State → Value → NodeId
value_node s (Node n) = n
value_node s (Number c) = next_node s

-- the state with that node
abbrev pub with_value : State → Value → State
with_value s (Node n) = s
with_value s (Number c) = with_number s c

-- a number can be written
abbrev pub CanPut : Value → Type 0
CanPut (Node n) = Unit {0}
CanPut (Number c) = IsBound c

-- the operand is the value, or is not known
abbrev pub IsRead : State → Operand → Option Value → Type 0
IsRead s o None = operand_node s o ≡ None
IsRead s o (Some v) = (operand_node s o ≡ Some (value_node s v)) × (with_operand s o ≡ with_value s v)

-- so it is at each state with these variables
abbrev pub StaysRead : State → Operand → Option Value → Type 0
StaysRead s o v = (t : State) → t.env ≡ s.env → IsRead t o v

-- the value can be written, if there is one
abbrev pub MayPut : Option Value → Type 0
MayPut None = Unit {0}
MayPut (Some v) = CanPut v

-- what is read of an operand that fits some variables can be written
abbrev pub FitsRead : Operand → Option Value → Type 0
FitsRead o v = (vars : List VarInfo) (kind : Kind) → IsOperand vars kind o → MayPut v
