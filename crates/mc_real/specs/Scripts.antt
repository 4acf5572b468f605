-- What the scripts of alarms say.
use Rattle.std.specs.Prelude.{◌<◌, ◌^◌, ℕ, List, [], map}
use Rattle.std.specs.List.{AllByRecursion}
use Rattle.mc_flow.specs.Heap.Choices.{malloc}
use Rattle.mc_flow.specs.declared.defs.shapes.StructInfo.{StructInfo}
use Rattle.mc_exact.specs.Scripts.{malloc_lines}
use Rattle.mc_run_values.specs.Values.Taking.{Takes}

-- the lines of answers of malloc are read as these answers, and no line is left
abbrev pub MallocScriptsAreTaken : Type 0
MallocScriptsAreTaken =
    (structs : List StructInfo) (answers : List ℕ) → AllByRecursion (λ answer. answer < 2 ^ 64) answers
    → Takes structs (malloc_lines answers) (map malloc answers) []
