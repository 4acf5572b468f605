-- Programs with their definitions.
use Rattle.std.specs.Prelude.{List}
use Rattle.mc_flow.specs.Defs.Conditions.{DefsFit}
use Rattle.mc_flow.specs.declared.defs.rules.Def.{Def}
use Rattle.mc_c_syntax.specs.Ast.Views.{unit_of}
use Rattle.mc_c_types.specs.Shapes.{IsBound}
use Rattle.mc_c_types.specs.Tables.{struct_infos}
use Rattle.mc_c_check.specs.declared.typed.Typed.{Typed}

-- a typed program with definitions
pub record BoundProgram : Type 0 where
  pub typed : Typed
  pub defs : List Def

-- the definitions fit the structs of the program, and its shape commands fit the definitions
pub record IsBoundTo (typed : Typed) (defs : List Def) : Type 0 where
  pub bound : IsBound (unit_of typed.unit) defs
  pub fit : DefsFit (struct_infos (unit_of typed.unit)) defs
