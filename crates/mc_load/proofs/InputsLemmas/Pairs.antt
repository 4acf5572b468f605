-- Two texts, from the program that is read first and what comes after it.
use Rattle.std.proofs.Common.{◌≡◌, List, ℕ, ap, subst, sym, ◌∙◌}
use Rattle.std.specs.Prelude.{IfOk, MatchResult, Result, Ok, Err}
use Rattle.mc_c_syntax.specs.Ast.Views.{unit_of}
use Rattle.mc_c_check.specs.Bounds.{BoundProgram}
use Rattle.mc_c_check.specs.declared.typed.Typed.{Typed}
use Rattle.mc_load.specs.declared.inputs.refusal.Refusal.{Refusal}
use Rattle.mc_load.specs.declared.inputs.refusal.Refusal.TheVariants.{Program, Definitions, Misfit}
use Rattle.mc_load.specs.Inputs.Pairs.{ArePair, AreRefused, AreRefusedWith, IsBoundTo}
use Rattle.mc_load.specs.Inputs.Texts.{IsProgramHere, IsWellFormed}

module _ (start text definitions : List ℕ) (typed : Typed) where
  pub pair_of : (r : Result BoundProgram Refusal) → IsProgramHere start text (unit_of typed.unit) → MatchResult r (IsBoundTo definitions typed) (AreRefusedWith definitions (unit_of typed.unit))
      → MatchResult r (λ (bound : BoundProgram). ArePair start text definitions (unit_of bound.typed.unit) bound.defs) (AreRefused start text definitions)
  pair_of (Ok bound) program told =
      let read : ArePair start text definitions (unit_of typed.unit) bound.defs = record { program = program; defined = told.1; fit = told.2 } in
      subst (λ (t : Typed). ArePair start text definitions (unit_of t.unit) bound.defs) (sym told.0) read
  pair_of (Err (Program cause)) program told = absurd told
  pair_of (Err (Definitions cause)) program told = (unit_of typed.unit, program, told)
  pair_of (Err (Misfit fault)) program told = (unit_of typed.unit, program, told)

  pub well_formed_pair : (r : Result BoundProgram Refusal) → IsWellFormed start (unit_of typed.unit) → MatchResult r (IsBoundTo definitions typed) (AreRefusedWith definitions (unit_of typed.unit))
      → IfOk r (λ (bound : BoundProgram). IsWellFormed start (unit_of bound.typed.unit))
  well_formed_pair (Ok bound) sound told = subst (λ (t : Typed). IsWellFormed start (unit_of t.unit)) (sym told.0) sound
  well_formed_pair (Err refusal) sound told = tt

  pub same_start : (r : Result BoundProgram Refusal) → typed.entry ≡ start → MatchResult r (IsBoundTo definitions typed) (AreRefusedWith definitions (unit_of typed.unit))
      → IfOk r (λ (bound : BoundProgram). bound.typed.entry ≡ start)
  same_start (Ok bound) same told = ap (λ (t : Typed). t.entry) told.0 ∙ same
  same_start (Err refusal) same told = tt
