use Rattle.std.proofs.Common.{◌≡◌, ◌++◌, map, drop}
use Rattle.mc_c_types.specs.Held.{tables_held}
use Rattle.mc_c_types.specs.Tables.{variable_of}
use Rattle.mc_c_check.specs.Infos.{field_info}
use Rattle.mc_c_check.proofs.infos.add_fields.Given as goal

abbrev pub invariant-loop-declarator : goal.invariant-loop-declarator
invariant-loop-declarator l =
    l.infos ++ map (λ d. field_info (variable_of (tables_held l.tables) l.base d)) (drop l.declarator-index l.declarators) ≡ l.initial.infos ++ map (λ d. field_info (variable_of (tables_held l.tables) l.base d)) l.declarators
