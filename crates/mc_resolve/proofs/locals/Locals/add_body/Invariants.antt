use Rattle.std.proofs.Common.{◌≡◌, ◌++◌, map}
use Rattle.mc_c_types.specs.Held.{tables_held, variable_held}
use Rattle.mc_resolve.specs.Gathers.{left_variables, rest_steps}
use Rattle.mc_resolve.proofs.locals.Locals.add_body.Given as goal

abbrev pub invariant-loop-next : goal.invariant-loop-next
invariant-loop-next l =
    map variable_held l.self ++ left_variables (tables_held l.tables) l.rest ≡ map variable_held l.initial.self ++ left_variables (tables_held l.tables) l.initial.rest

abbrev pub decreases-loop-next : goal.decreases-loop-next
decreases-loop-next l = rest_steps l.rest
