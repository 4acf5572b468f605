-- The operands of an instruction that computes are numbers.
use Rattle.std.proofs.Common.{List}
use Rattle.mc_base.specs.declared.ids.PointId.{PointId}
use Rattle.mc_base.specs.declared.ids.VarId.{VarId}
use Rattle.mc_base.specs.declared.plain.Kind.TheVariants.{Int}
use Rattle.mc_base.specs.declared.plain.VarInfo.{VarInfo}
use Rattle.mc_flow.specs.declared.defs.rules.Def.{Def}
use Rattle.mc_flow.specs.declared.defs.shapes.Structs.{Structs}
use Rattle.mc_flow.specs.declared.instr.Operand.{Operand}
use Rattle.mc_flow.specs.Valid.{FitsKinds, IsOperand}
use Rattle.mc_apply_steps.specs.Compute.Computed.{computes}
use Rattle.mc_apply_steps.specs.declared.compute.results.Operation.{Operation}
use Rattle.mc_apply_steps.specs.declared.compute.results.Operation.TheVariants.{Sum, Difference, Product}

pub operands_of : (vars : List VarInfo) (structs : Structs) (defs : List Def) (op : Operation) (x : VarId) (o o' : Operand) (q : PointId)
    → FitsKinds vars structs defs (computes op x o o' q) → IsOperand vars Int o × IsOperand vars Int o'
operands_of vars structs defs Sum x o o' q fits = (fits.1, fits.2)
operands_of vars structs defs Difference x o o' q fits = (fits.1, fits.2)
operands_of vars structs defs Product x o o' q fits = (fits.1, fits.2)
