-- Two texts, of which the one is a program and the other its definitions.
use Rattle.std.specs.Prelude.{◌≡◌, ℕ, List}
use Rattle.mc_c_syntax.specs.Ast.Trees.{UnitTree}
use Rattle.mc_c_syntax.specs.Ast.Views.{unit_of}
use Rattle.mc_c_check.specs.Bounds.{BoundProgram}
use Rattle.mc_c_check.specs.declared.typed.Typed.{Typed}
use Rattle.mc_c_types.specs.Shapes.{IsBound}
use Rattle.mc_flow.specs.declared.defs.rules.Def.{Def}
use Rattle.mc_load.specs.declared.inputs.refusal.Refusal.{Refusal}
use Rattle.mc_load.specs.declared.inputs.refusal.Refusal.TheVariants.{Program, Definitions, Misfit}
use Rattle.mc_load.specs.Inputs.Texts.{AreDefinitions, HasMisfit, IsProgramHere, IsUndefined, IsUnread}

-- the texts are this program and these definitions, and its shape commands fit them
pub record ArePair (start text definitions : List ℕ) (unit : UnitTree) (defs : List Def) : Type 0 where
  pub program : IsProgramHere start text unit
  pub defined : AreDefinitions unit defs definitions
  pub fit : IsBound unit defs

-- the program is bound to definitions that the text is, and its shape commands fit them
abbrev pub IsBoundTo : (definitions : List ℕ) → Typed → BoundProgram → Type 0
IsBoundTo definitions typed bound =
    (bound.typed ≡ typed) × AreDefinitions (unit_of typed.unit) bound.defs definitions × IsBound (unit_of typed.unit) bound.defs

-- why the definitions are refused after this program
abbrev pub AreRefusedWith : (definitions : List ℕ) → UnitTree → Refusal → Type 0
AreRefusedWith definitions unit (Program cause) = ⊥
AreRefusedWith definitions unit (Definitions cause) = IsUndefined unit cause definitions
AreRefusedWith definitions unit (Misfit fault) = (defs : List Def) × AreDefinitions unit defs definitions × HasMisfit unit defs fault

-- why the texts are refused: the one is no program, or the other one are no definitions that it fits
abbrev pub AreRefused : (start text definitions : List ℕ) → Refusal → Type 0
AreRefused start text definitions (Program cause) = IsUnread start text cause
AreRefused start text definitions (Definitions cause) =
    (unit : UnitTree) × IsProgramHere start text unit × AreRefusedWith definitions unit (Definitions cause)
AreRefused start text definitions (Misfit fault) =
    (unit : UnitTree) × IsProgramHere start text unit × AreRefusedWith definitions unit (Misfit fault)
