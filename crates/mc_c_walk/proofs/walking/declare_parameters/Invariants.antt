use Rattle.std.proofs.Common.{◌≡◌, [], map, reverse, take}
use Rattle.mc_c_types.specs.Held.{tables_held}
use Rattle.mc_c_types.specs.Tables.{variable_of}
use Rattle.mc_c_walk.proofs.walking.declare_parameters.Given as goal

abbrev pub invariant-loop-parameter : goal.invariant-loop-parameter
invariant-loop-parameter l =
    l.variables ≡ record { heads = []; own = reverse (map (λ p. variable_of (tables_held l.tables) p.base p.declarator) (take l.parameter-index l.parameters)); outer = [] }
