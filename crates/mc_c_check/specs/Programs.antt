-- What the check of a program answers.
use Rattle.std.specs.Prelude.{◌≡◌, ℕ, List}
use Rattle.mc_c_syntax.specs.declared.ast.trees.Unit.{Unit as UnitCode}
use Rattle.mc_c_syntax.specs.Ast.Trees.{UnitTree}
use Rattle.mc_c_types.specs.Typing.{IsFirstFault}
use Rattle.mc_c_types.specs.Shapes.{IsFirstBindFault}
use Rattle.mc_c_types.specs.declared.faults.TypeFault.{TypeFault}
use Rattle.mc_c_types.specs.declared.faults.TypeFault.TheVariants.{Refused, NoMemory}
use Rattle.mc_flow.specs.declared.defs.rules.Def.{Def}
use Rattle.mc_c_check.specs.declared.typed.Typed.{Typed}
use Rattle.mc_c_check.specs.Bounds.{BoundProgram}

-- the typed program is the one that was given
pub record Holds (typed : Typed) (unit : UnitCode) (entry : List ℕ) : Type 0 where
  pub same_unit : typed.unit ≡ unit
  pub same_entry : typed.entry ≡ entry

-- a refusal tells the first fault; memory may always be missing
abbrev pub IsRefusal : UnitTree → List ℕ → TypeFault → Type 0
IsRefusal unit entry (Refused fault) = IsFirstFault unit entry fault
IsRefusal unit entry NoMemory = Unit {0}

-- the bound program is the typed one that was given, with the definitions that were given
pub record Binds (bound : BoundProgram) (typed : Typed) (defs : List Def) : Type 0 where
  pub same_typed : bound.typed ≡ typed
  pub same_defs : bound.defs ≡ defs

-- a refusal tells the first fault of a shape command; memory may always be missing
abbrev pub IsMisfit : UnitTree → List Def → TypeFault → Type 0
IsMisfit unit defs (Refused fault) = IsFirstBindFault unit defs fault
IsMisfit unit defs NoMemory = Unit {0}
