-- Operands that fit some variables.
use Rattle.std.specs.Prelude.{◌&&◌, Bool, true, List, [], ◌∷◌, is_some}
use Rattle.mc_base.specs.declared.plain.Kind.{Kind}
use Rattle.mc_base.specs.declared.plain.VarInfo.{VarInfo}
use Rattle.mc_flow.specs.declared.instr.Operand.{Operand}
use Rattle.mc_flow.specs.Valid.{IsOperand}
use Rattle.mc_state.specs.State.{State}
use Rattle.mc_rules_steps.specs.Operands.{operand_node}

-- the operand is one of some kind, where the variables are these
pub record FitsVars (vars : List VarInfo) (o : Operand) : Type 0 where
  pub kind : Kind
  pub fits : IsOperand vars kind o

-- each operand is known
abbrev pub all_known : State → List Operand → Bool
all_known s [] = true
all_known s (o ∷ os) = is_some (operand_node s o) && all_known s os
