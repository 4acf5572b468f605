use Rattle.std.proofs.Common.{◌≡◌, [], drop, map, reverse}
use Rattle.mc_c_types.specs.Faults.{prototype_faults}
use Rattle.mc_c_types.specs.First.{told_of}
use Rattle.mc_c_types.specs.Held.{tables_held}
use Rattle.mc_c_check.specs.Collected.{functions_held}
use Rattle.mc_c_check.proofs.Repeats.{tree_of}
use Rattle.mc_c_check.proofs.prototypes.check_prototypes.Given as goal

abbrev pub invariant-loop-function : goal.invariant-loop-function
invariant-loop-function l =
    told_of l.told.fault (prototype_faults (tables_held l.tables) (map tree_of (reverse l.before)) (functions_held (drop l.function-index l.functions))) ≡ told_of l.initial.told.fault (prototype_faults (tables_held l.tables) [] (functions_held l.functions))
