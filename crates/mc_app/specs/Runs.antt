-- Why the run of a program comes to what it does.
use Rattle.std.specs.Prelude.{◌≤◌, ◌<◌, ◌^◌, List, length}
use Rattle.mc_c_syntax.specs.Ast.Trees.{UnitTree}
use Rattle.mc_lines.specs.Cert.Lines.{lines_of}
use Rattle.mc_flow.specs.declared.defs.rules.Def.{Def}
use Rattle.mc_load.specs.Inputs.Inputs.{Holds}
use Rattle.mc_run.specs.Interpret.Programs.{ProgramRuns}
use Rattle.mc_outside.specs.Outside.{WhereTold}
use Rattle.mc_app.specs.declared.words.words.Run.{Run}
use Rattle.mc_app.specs.declared.running.Ran.{Ran}
use Rattle.mc_app.specs.declared.running.Ran.TheVariants.{TooBig, To}

-- where the script is known, it is too big; or with its lines and the fuel the program runs to this
abbrev pub IsWhyRan : Holds → Run → UnitTree → List Def → Ran → Type 0
IsWhyRan holds r unit defs TooBig = WhereTold (holds r.script.now) (λ script. 2 ^ 20 < length script)
IsWhyRan holds r unit defs (To ending) =
    WhereTold (holds r.script.now) (λ script. (length script ≤ 2 ^ 20) × ProgramRuns unit r.start.now defs (lines_of script) r.fuel ending)
