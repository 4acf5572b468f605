-- Scripts on which programs fault.
use Rattle.std.specs.Prelude.{◌≡◌, ◌≢◌, ◌≤◌, ℕ, List, All}
use Rattle.mc_base.specs.declared.plain.FaultKind.{FaultKind}
use Rattle.mc_base.specs.declared.text.place.Place.{Place}
use Rattle.mc_c_syntax.specs.Ast.Trees.{UnitTree}
use Rattle.mc_flow.specs.declared.defs.rules.Def.{Def}
use Rattle.mc_lines.specs.Cert.Lines.{lines_of}
use Rattle.mc_run.specs.declared.interpret.ending.Ending.{Ending}
use Rattle.mc_run.specs.declared.interpret.ending.Ending.TheVariants.{Fault}
use Rattle.mc_run.specs.Interpret.Programs.{ProgramRuns}
use Rattle.mc_tries.specs.declared.found.Found.{Found}

-- with the lines of the script the program comes to this fault, and to nothing else, given 2,000 units of fuel or more
pub record FaultsOnScript (entry : List ℕ) (unit : UnitTree) (defs : List Def) (kind : FaultKind) (place : Place)
    (script : List ℕ) : Type 0 where
  pub runs : (fuel : ℕ) → 2000 ≤ fuel → ProgramRuns unit entry defs (lines_of script) fuel (Fault kind place)
  pub answered : (fuel : ℕ) (ending : Ending) → 2000 ≤ fuel → ProgramRuns unit entry defs (lines_of script) fuel ending
      → ending ≡ Fault kind place

-- a byte of a script that is no blank
abbrev pub IsNoBlank : ℕ → Type 0
IsNoBlank byte = byte ≢ 32

-- the script was run, and the program faults on it so; it has no blank
pub record IsFound (entry : List ℕ) (unit : UnitTree) (defs : List Def) (f : Found) : Type 0 where
  pub faults : FaultsOnScript entry unit defs f.kind f.place f.script.items
  pub no_blank : All IsNoBlank f.script.items
