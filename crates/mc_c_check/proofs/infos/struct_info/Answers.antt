use Rattle.std.proofs.Common.{ap, map, flat_map, ◌∙◌}
use Rattle.mc_c_syntax.specs.Ast.Views.{field_of, struct_of}
use Rattle.mc_c_types.specs.Held.{tables_held}
use Rattle.mc_c_check.specs.Infos.{field_infos}
use Rattle.mc_c_check.proofs.Bases.{info_made}
use Rattle.mc_c_check.proofs.infos.struct_info.Goals as goal

pub returns : goal.returns
returns c =
    info_made (tables_held c.args.tables.now) (struct_of c.args.tree.now) c.in_ok-bytes_of.field-0 c.in_ok-all_fields.field-0 c.in_ok-bytes_of.ensures
    (c.in_ok-all_fields.ensures ∙ ap (λ fields. flat_map (field_infos (tables_held c.args.tables.now)) (map field_of fields)) c.as_slice.ensures.value)
