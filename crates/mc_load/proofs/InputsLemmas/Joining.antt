-- Inputs, from the program that is read first and what comes after it.
use Rattle.std.proofs.Common.{◌∙◌, List, ℕ, subst, sym}
use Rattle.std.specs.Prelude.{IfOk, MatchResult, Result, Ok, Err}
use Rattle.mc_c_syntax.specs.Ast.Views.{unit_of}
use Rattle.mc_flow.specs.declared.defs.rules.Def.{Def}
use Rattle.mc_outside.specs.Outside.{Stays}
use Rattle.mc_c_check.specs.Bounds.{BoundProgram}
use Rattle.mc_c_check.specs.declared.typed.Typed.{Typed}
use Rattle.mc_load.specs.declared.inputs.reading.Sources.{Sources}
use Rattle.mc_load.specs.declared.inputs.refusal.Refusal.{Refusal}
use Rattle.mc_load.specs.declared.inputs.refusal.Refusal.TheVariants.{Program, Definitions, Misfit}
use Rattle.mc_load.specs.Inputs.Inputs.{AreDefinitionsIn, AreInputs, Holds, IsBoundIn, IsProgramIn, IsRefused, IsRefusedWith}
use Rattle.mc_load.specs.Inputs.Texts.{IsWellFormed}

module _ (old new : Holds) (s : Sources) (typed : Typed) (stays : Stays old new) where
  -- what the definitions' file holds has stayed
  stay_definitions : (defs : List Def) → AreDefinitionsIn new s (unit_of typed.unit) defs → AreDefinitionsIn old s (unit_of typed.unit) defs
  stay_definitions defs read = λ text h. read text (stays s.definitions.now ∙ h)

  pub inputs_of : (r : Result BoundProgram Refusal) → IsProgramIn old s (unit_of typed.unit) → MatchResult r (IsBoundIn new s typed) (IsRefusedWith new s (unit_of typed.unit))
      → MatchResult r (λ (bound : BoundProgram). AreInputs old s (unit_of bound.typed.unit) bound.defs) (IsRefused old s)
  inputs_of (Ok bound) program told =
      let read : AreInputs old s (unit_of typed.unit) bound.defs = record { program = program; definitions = stay_definitions bound.defs told.1; fit = told.2 } in
      subst (λ (t : Typed). AreInputs old s (unit_of t.unit) bound.defs) (sym told.0) read
  inputs_of (Err (Program cause)) program told = absurd told
  inputs_of (Err (Definitions cause)) program told = (unit_of typed.unit, program, λ text h. told text (stays s.definitions.now ∙ h))
  inputs_of (Err (Misfit fault)) program told = (unit_of typed.unit, program, (told.0, stay_definitions told.0 told.1, told.2))

  pub well_formed_too : (start : List ℕ) (r : Result BoundProgram Refusal) → IsWellFormed start (unit_of typed.unit) → MatchResult r (IsBoundIn new s typed) (IsRefusedWith new s (unit_of typed.unit))
      → IfOk r (λ (bound : BoundProgram). IsWellFormed start (unit_of bound.typed.unit))
  well_formed_too start (Ok bound) sound told = subst (λ (t : Typed). IsWellFormed start (unit_of t.unit)) (sym told.0) sound
  well_formed_too start (Err refusal) sound told = tt
