use Rattle.std.proofs.Common.{◌≡◌, flat_map, drop}
use Rattle.mc_c_types.specs.Faults.{declarator_faults}
use Rattle.mc_c_types.specs.First.{told_of}
use Rattle.mc_c_types.specs.Held.{tables_held}
use Rattle.mc_c_check.proofs.functions.check_parameters.Given as goal

abbrev pub invariant-loop-parameter : goal.invariant-loop-parameter
invariant-loop-parameter l =
    told_of l.told.fault (flat_map (λ p. declarator_faults (tables_held l.tables) p.base p.declarator) (drop l.parameter-index l.parameters)) ≡ told_of l.initial.told.fault (flat_map (λ p. declarator_faults (tables_held l.tables) p.base p.declarator) l.parameters)
