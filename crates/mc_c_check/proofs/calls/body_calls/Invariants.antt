use Rattle.std.proofs.Common.{◌≡◌, ◌++◌, flat_map, length}
use Rattle.mc_c_types.specs.Held.{tables_held}
use Rattle.mc_c_check.specs.Collected.{names_held}
use Rattle.mc_c_walk.specs.Gives.{visit_calls}
use Rattle.mc_c_walk.specs.Tasks.{rest}
use Rattle.mc_c_check.proofs.calls.body_calls.Given as goal

abbrev pub invariant-loop-walk : goal.invariant-loop-walk
invariant-loop-walk l =
    names_held l.names ++ flat_map visit_calls (rest (tables_held l.tables) l.walk) ≡ flat_map visit_calls (rest (tables_held l.tables) l.initial.walk)

abbrev pub decreases-loop-walk : goal.decreases-loop-walk
decreases-loop-walk l = length (rest (tables_held l.tables) l.walk)
