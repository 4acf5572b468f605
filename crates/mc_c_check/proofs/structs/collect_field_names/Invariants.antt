use Rattle.std.proofs.Common.{◌≡◌, ◌++◌, map, drop}
use Rattle.mc_c_syntax.specs.Ast.Views.{field_of}
use Rattle.mc_c_check.specs.Collected.{field_names, names_held}
use Rattle.mc_c_check.proofs.structs.collect_field_names.Given as goal

abbrev pub invariant-loop-field : goal.invariant-loop-field
invariant-loop-field l = names_held l.names ++ field_names (map field_of (drop l.field-index l.fields)) ≡ field_names (map field_of l.fields)
