-- What the files of a program and its definitions hold, and why they are refused.
use Rattle.std.specs.Prelude.{◌≡◌, ℕ, List, Option}
use Rattle.mc_c_syntax.specs.Ast.Trees.{UnitTree}
use Rattle.mc_c_syntax.specs.Ast.Views.{unit_of}
use Rattle.mc_outside.specs.Outside.{WhereTold}
use Rattle.mc_c_types.specs.Shapes.{IsBound}
use Rattle.mc_flow.specs.declared.defs.rules.Def.{Def}
use Rattle.mc_c_check.specs.Bounds.{BoundProgram}
use Rattle.mc_c_check.specs.declared.typed.Typed.{Typed}
use Rattle.mc_load.specs.declared.inputs.reading.Sources.{Sources}
use Rattle.mc_load.specs.declared.inputs.refusal.Refusal.{Refusal}
use Rattle.mc_load.specs.declared.inputs.refusal.Refusal.TheVariants.{Program, Definitions, Misfit}
use Rattle.mc_load.specs.Inputs.Texts.{AreDefinitions, HasMisfit, IsProgramHere, IsUndefined, IsUnread}

-- what files hold, by name, where it is known
abbrev pub Holds : Type 0
Holds = List ℕ → Option (List ℕ)

-- the file is this program, where it is known
abbrev pub IsProgramIn : Holds → Sources → UnitTree → Type 0
IsProgramIn holds s unit = WhereTold (holds s.program.now) (λ text. IsProgramHere s.start.now text unit)

-- the file is these definitions over the program's structs, where it is known
abbrev pub AreDefinitionsIn : Holds → Sources → UnitTree → List Def → Type 0
AreDefinitionsIn holds s unit defs = WhereTold (holds s.definitions.now) (AreDefinitions unit defs)

-- the program is bound to definitions that the file is, where it is known, and its shape commands fit them
abbrev pub IsBoundIn : Holds → Sources → Typed → BoundProgram → Type 0
IsBoundIn holds s typed bound =
    (bound.typed ≡ typed) × AreDefinitionsIn holds s (unit_of typed.unit) bound.defs × IsBound (unit_of typed.unit) bound.defs

-- the files are this program and these definitions, and its shape commands fit them
pub record AreInputs (holds : Holds) (s : Sources) (unit : UnitTree) (defs : List Def) : Type 0 where
  pub program : IsProgramIn holds s unit
  pub definitions : AreDefinitionsIn holds s unit defs
  pub fit : IsBound unit defs

-- why the files are refused after this program
abbrev pub IsRefusedWith : Holds → Sources → UnitTree → Refusal → Type 0
IsRefusedWith holds s unit (Program cause) = ⊥
IsRefusedWith holds s unit (Definitions cause) = WhereTold (holds s.definitions.now) (IsUndefined unit cause)
IsRefusedWith holds s unit (Misfit fault) = (defs : List Def) × AreDefinitionsIn holds s unit defs × HasMisfit unit defs fault

-- why they are refused: the program is read first, then the definitions, and then its shape commands are tried
abbrev pub IsRefused : Holds → Sources → Refusal → Type 0
IsRefused holds s (Program cause) = WhereTold (holds s.program.now) (λ text. IsUnread s.start.now text cause)
IsRefused holds s (Definitions cause) = (unit : UnitTree) × IsProgramIn holds s unit × IsRefusedWith holds s unit (Definitions cause)
IsRefused holds s (Misfit fault) = (unit : UnitTree) × IsProgramIn holds s unit × IsRefusedWith holds s unit (Misfit fault)
