use Rattle.std.proofs.Common.{◌≡◌, flat_map, length}
use Rattle.mc_c_types.specs.First.{told_of}
use Rattle.mc_c_types.specs.Held.{tables_held}
use Rattle.mc_c_types.specs.Shapes.{use_faults}
use Rattle.mc_c_walk.specs.Gives.{visit_uses}
use Rattle.mc_c_walk.specs.Tasks.{rest}
use Rattle.mc_c_check.proofs.shapes.check_parts.Given as goal

abbrev pub invariant-loop-walk : goal.invariant-loop-walk
invariant-loop-walk l =
    told_of l.told.fault (flat_map (λ v. flat_map (use_faults l.defs) (visit_uses v)) (rest (tables_held l.tables) l.walk)) ≡ told_of l.initial.told.fault (flat_map (λ v. flat_map (use_faults l.defs) (visit_uses v)) (rest (tables_held l.tables) l.initial.walk))

abbrev pub decreases-loop-walk : goal.decreases-loop-walk
decreases-loop-walk l = length (rest (tables_held l.tables) l.walk)
