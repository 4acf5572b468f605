-- The fault to which a program comes with 2,000 units of fuel.
use Rattle.std.proofs.Common.{◌≤◌, ℕ, List, arith}
use Rattle.mc_base.specs.declared.plain.FaultKind.{FaultKind}
use Rattle.mc_base.specs.declared.text.place.Place.{Place}
use Rattle.mc_c_syntax.specs.Ast.Trees.{UnitTree}
use Rattle.mc_c_types.specs.Typing.{IsWellTyped}
use Rattle.mc_flow.specs.declared.defs.rules.Def.{Def}
use Rattle.mc_lines.specs.Cert.Lines.{lines_of}
use Rattle.mc_run.specs.Interpret.Faults.{FaultsAreOne}
use Rattle.mc_run.specs.Interpret.Programs.{ProgramRuns}
use Rattle.mc_run.specs.declared.interpret.ending.Ending.TheVariants.{Fault}
use Rattle.mc_tries.specs.Found.{FaultsOnScript}

module _ (one : FaultsAreOne) (entry : List ℕ) (unit : UnitTree) (defs : List Def) (kind : FaultKind) (place : Place) (script : List ℕ) (typed : IsWellTyped unit entry) where
  -- with more fuel it comes to it too
  with_more : ProgramRuns unit entry defs (lines_of script) 2000 (Fault kind place) → (fuel : ℕ) → 2000 ≤ fuel → ProgramRuns unit entry defs (lines_of script) fuel (Fault kind place)
  with_more (f, called, (used, left, took, (n, le, to))) fuel more = (f, called, (used, left, took, (n, omega (arith, le, more), to)))

  pub faults_on : ProgramRuns unit entry defs (lines_of script) 2000 (Fault kind place) → FaultsOnScript entry unit defs kind place script
  faults_on runs = record {
    runs = with_more runs;
    answered = λ fuel ending more others. one unit entry defs (lines_of script) 2000 fuel kind place ending typed more runs others;
  }
