use Rattle.std.proofs.Common.{◌≡◌, map, flat_map, drop}
use Rattle.mc_c_syntax.specs.Ast.Views.{field_of}
use Rattle.mc_c_types.specs.Tables.{type_in, variables_of}
use Rattle.mc_c_types.specs.Held.{tables_held}
use Rattle.mc_c_types.proofs.tables.NameTables.type_of_field.Given as goal

abbrev pub invariant-loop-field : goal.invariant-loop-field
invariant-loop-field l =
    type_in (flat_map (variables_of (tables_held l.self)) (map field_of (drop l.field-index l.fields))) l.name ≡ type_in (flat_map (variables_of (tables_held l.self)) (map field_of l.fields)) l.name
