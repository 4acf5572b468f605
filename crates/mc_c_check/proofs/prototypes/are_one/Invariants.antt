use Rattle.std.proofs.Common.{◌≡◌, map, drop}
use Rattle.mc_c_types.specs.Held.{tables_held}
use Rattle.mc_c_types.specs.Tables.{variable_of}
use Rattle.mc_c_check.proofs.prototypes.are_one.Given as goal

abbrev pub invariant-loop-i : goal.invariant-loop-i
invariant-loop-i l =
    map (λ p. (variable_of (tables_held l.tables) p.base p.declarator).type) (drop l.i l.left) ≡ map (λ p. (variable_of (tables_held l.tables) p.base p.declarator).type) (drop l.i l.right)
    → map (λ p. (variable_of (tables_held l.tables) p.base p.declarator).type) l.left ≡ map (λ p. (variable_of (tables_held l.tables) p.base p.declarator).type) l.right
