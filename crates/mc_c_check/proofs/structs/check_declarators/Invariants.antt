use Rattle.std.proofs.Common.{◌≡◌, flat_map, drop}
use Rattle.mc_c_types.specs.Faults.{declarator_faults}
use Rattle.mc_c_types.specs.First.{told_of}
use Rattle.mc_c_types.specs.Held.{tables_held}
use Rattle.mc_c_check.proofs.structs.check_declarators.Given as goal

abbrev pub invariant-loop-declarator : goal.invariant-loop-declarator
invariant-loop-declarator l =
    told_of l.told.fault (flat_map (declarator_faults (tables_held l.tables) l.base) (drop l.declarator-index l.declarators)) ≡ told_of l.initial.told.fault (flat_map (declarator_faults (tables_held l.tables) l.base) l.declarators)
