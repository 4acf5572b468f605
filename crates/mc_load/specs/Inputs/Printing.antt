-- What is printed of a refusal.
use Rattle.std.specs.Prelude.{ℕ, List, ◌++◌, codes}
use Rattle.mc_load.specs.Read.Printing as program
use Rattle.mc_def_parse.specs.Printing as definitions
use Rattle.mc_load.specs.declared.inputs.refusal.NoProgram.{NoProgram}
use Rattle.mc_load.specs.declared.inputs.refusal.NoDefinitions.{NoDefinitions}
use Rattle.mc_load.specs.declared.inputs.refusal.Refusal.{Refusal}
use Rattle.mc_load.specs.declared.inputs.refusal.Refusal.TheVariants.{Program, Definitions, Misfit}

-- why a text gives no program
abbrev pub program_text : NoProgram → List ℕ
program_text NoProgram.TooBig = codes "TooBig"
program_text (NoProgram.Refused fault) = program.refusal_text fault

-- why a text gives no definitions
abbrev pub definitions_text : NoDefinitions → List ℕ
definitions_text NoDefinitions.TooBig = codes "TooBig"
definitions_text (NoDefinitions.Refused fault) = definitions.refusal_text fault

-- which of both is refused, and why
abbrev pub refusal_text : Refusal → List ℕ
refusal_text (Program cause) = codes "program: " ++ program_text cause
refusal_text (Definitions cause) = codes "definitions: " ++ definitions_text cause
refusal_text (Misfit fault) = codes "program: " ++ program.refusal_text fault
