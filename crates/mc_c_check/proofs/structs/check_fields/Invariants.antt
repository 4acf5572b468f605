use Rattle.std.proofs.Common.{◌≡◌, flat_map, drop, map}
use Rattle.mc_c_syntax.specs.Ast.Views.{field_of}
use Rattle.mc_c_types.specs.Faults.{declarator_faults}
use Rattle.mc_c_types.specs.First.{told_of}
use Rattle.mc_c_types.specs.Held.{tables_held}
use Rattle.mc_c_check.proofs.structs.check_fields.Given as goal

abbrev pub invariant-loop-field : goal.invariant-loop-field
invariant-loop-field l =
    told_of l.told.fault (flat_map (λ field. flat_map (declarator_faults (tables_held l.tables) field.base) field.declarators) (map field_of (drop l.field-index l.fields))) ≡ told_of l.initial.told.fault (flat_map (λ field. flat_map (declarator_faults (tables_held l.tables) field.base) field.declarators) (map field_of l.fields))
