-- What texts are, as programs and definitions.
use Rattle.std.specs.Prelude.{◌≡◌, ◌≤◌, ◌<◌, ◌^◌, ℕ, List, Ok, Err, length}
use Rattle.mc_c_syntax.specs.Ast.Trees.{UnitTree}
use Rattle.mc_c_types.specs.declared.faults.Fault.{Fault}
use Rattle.mc_c_types.specs.Typing.{IsWellTyped}
use Rattle.mc_c_types.specs.Shapes.{IsFirstBindFault}
use Rattle.mc_c_types.specs.Tables.{struct_infos}
use Rattle.mc_flow.specs.declared.defs.rules.Def.{Def}
use Rattle.mc_def_read.specs.Readings.{ReadsAs}
use Rattle.mc_load.specs.declared.read.cause.Refusal.{Refusal as ProgramFault}
use Rattle.mc_load.specs.Read.Causes.{typing_refusal}
use Rattle.mc_load.specs.Read.Programs.{IsProgramOf, IsReadAs}
use Rattle.mc_load.specs.Read.Refusals.{IsRefused}
use Rattle.mc_load.specs.declared.inputs.refusal.NoProgram.{NoProgram}
use Rattle.mc_load.specs.declared.inputs.refusal.NoProgram.TheVariants.{TooBig, Refused}
use Rattle.mc_load.specs.declared.inputs.refusal.NoDefinitions.{NoDefinitions}

-- the text is not too big, and is this program, whose runs begin with a function
abbrev pub IsProgramHere : (start text : List ℕ) → UnitTree → Type 0
IsProgramHere start text unit = (length text ≤ 2 ^ 20) × IsProgramOf text start unit

-- why a text is not read as a program
abbrev pub IsUnread : (start text : List ℕ) → NoProgram → Type 0
IsUnread start text TooBig = 2 ^ 20 < length text
IsUnread start text (Refused fault) = (length text ≤ 2 ^ 20) × IsRefused text start fault

-- the program is well typed for its entry, and there is a text that is read as it
pub record IsWellFormed (start : List ℕ) (unit : UnitTree) : Type 0 where
  pub typed : IsWellTyped unit start
  pub text : List ℕ
  pub read : IsReadAs text unit

-- the text is not too big, and is these definitions over the program's structs
abbrev pub AreDefinitions : UnitTree → List Def → List ℕ → Type 0
AreDefinitions unit defs text = (length text ≤ 2 ^ 18) × ReadsAs text (struct_infos unit) (Ok defs)

-- why a text is not read as definitions
abbrev pub IsUndefined : UnitTree → NoDefinitions → List ℕ → Type 0
IsUndefined unit NoDefinitions.TooBig text = 2 ^ 18 < length text
IsUndefined unit (NoDefinitions.Refused fault) text = (length text ≤ 2 ^ 18) × ReadsAs text (struct_infos unit) (Err fault)

-- with these definitions this is the first fault of its shape commands
abbrev pub HasMisfit : UnitTree → List Def → ProgramFault → Type 0
HasMisfit unit defs refusal = (fault : Fault) × IsFirstBindFault unit defs fault × (typing_refusal fault ≡ refusal)
