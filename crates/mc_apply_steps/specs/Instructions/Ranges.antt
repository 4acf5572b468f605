-- Ranges that suffice for an instruction.
use Rattle.std.specs.Prelude.{◌≡◌, Some}
use Rattle.mc_flow.specs.declared.instr.Instr.{Instr}
use Rattle.mc_flow.specs.declared.instr.Operand.{Operand}
use Rattle.mc_state.specs.Facts.{IsFalse}
use Rattle.mc_state.specs.State.{State}
use Rattle.mc_rules_steps.specs.Sums.{AreLeast, Ranges, ranged}

-- where the state is not false, the ranges that are given for the operands of an instruction are the least
abbrev pub FitRanges : Ranges → Instr → State → Type 0
FitRanges range code s = (o o' : Operand) → ranged code ≡ Some (o, o') → (IsFalse s → ⊥) → AreLeast range o o' s
