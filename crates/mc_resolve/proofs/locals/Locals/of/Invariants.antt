use Rattle.std.proofs.Common.{◌≡◌, map, take}
use Rattle.mc_c_types.specs.Held.{tables_held, variable_held}
use Rattle.mc_c_types.specs.Tables.{variable_of}
use Rattle.mc_resolve.proofs.locals.Locals.of.Given as goal

abbrev pub invariant-loop-parameter : goal.invariant-loop-parameter
invariant-loop-parameter l =
    map variable_held l.locals ≡ map (λ p. variable_of (tables_held l.tables) p.base p.declarator) (take l.parameter-index l.listed)
