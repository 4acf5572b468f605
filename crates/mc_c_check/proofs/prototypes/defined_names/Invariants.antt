use Rattle.std.proofs.Common.{◌≡◌, ◌++◌, map, drop}
use Rattle.std.specs.Prelude.{filter}
use Rattle.mc_c_types.specs.Tables.{is_defined}
use Rattle.mc_c_check.specs.Collected.{functions_held, names_held}
use Rattle.mc_c_check.proofs.prototypes.defined_names.Given as goal

abbrev pub invariant-loop-function : goal.invariant-loop-function
invariant-loop-function l =
    names_held l.names ++ map (λ f. f.name) (filter is_defined (functions_held (drop l.function-index l.functions))) ≡ map (λ f. f.name) (filter is_defined (functions_held l.functions))
