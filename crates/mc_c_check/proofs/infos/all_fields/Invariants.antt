use Rattle.std.proofs.Common.{◌≡◌, ◌++◌, flat_map, map, drop}
use Rattle.mc_c_syntax.specs.Ast.Views.{field_of}
use Rattle.mc_c_types.specs.Held.{tables_held}
use Rattle.mc_c_check.specs.Infos.{field_infos}
use Rattle.mc_c_check.proofs.infos.all_fields.Given as goal

abbrev pub invariant-loop-field : goal.invariant-loop-field
invariant-loop-field l =
    l.infos ++ flat_map (field_infos (tables_held l.tables)) (map field_of (drop l.field-index l.fields)) ≡ flat_map (field_infos (tables_held l.tables)) (map field_of l.fields)
