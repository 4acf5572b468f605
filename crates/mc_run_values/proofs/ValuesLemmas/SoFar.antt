-- What is known while arguments are evaluated one after the other.
use Rattle.std.proofs.Common.{◌++◌, ℕ, ℤ, List, Option}
use Rattle.mc_flow.specs.Heap.Choices.{Choice}
use Rattle.mc_flow.specs.Heap.Heap.{Heap}
use Rattle.mc_flow.specs.declared.defs.shapes.StructInfo.{StructInfo}
use Rattle.mc_semantics.specs.Steps.{Arguments, no_arguments, arguments}
use Rattle.mc_semantics.specs.Resolved.Programs.{Expr}
use Rattle.mc_semantics.specs.Resolved.Configs.{Values}
use Rattle.mc_semantics.specs.Resolved.Steps.{EvaluateAll}
use Rattle.mc_run_values.specs.Values.Asking.{ArgumentsAsk}
use Rattle.mc_run_values.specs.Values.Taking.{Takes}

-- what arguments come to after others
abbrev pub behind : List (Option ℤ) → Arguments → Arguments
behind vs (no_arguments kind) = no_arguments kind
behind vs (arguments ws rest) = arguments (vs ++ ws) rest

-- the first arguments came to these values on the way from these lines to those, and the others are left
abbrev pub ComesSoFar : List StructInfo → Values → Heap → List Expr → List (Option ℤ) → List Expr → (old now : List (List ℕ)) → Type 0
ComesSoFar structs values heap es vs left old now =
    (used : List Choice) × Takes structs old used now
    × ((rest : List Choice) (r : Arguments) → EvaluateAll (record { values = values; heap = heap }) left rest r
    → EvaluateAll (record { values = values; heap = heap }) es (used ++ rest) (behind vs r))
    × ((rest asked : List Choice) → ArgumentsAsk values heap left rest asked → ArgumentsAsk values heap es (used ++ rest) asked)
