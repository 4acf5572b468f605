use Rattle.std.proofs.Common.{ap, map, ◌∙◌}
use Rattle.mc_c_syntax.specs.Ast.Views.{field_of}
use Rattle.mc_c_types.specs.Held.{tables_held}
use Rattle.mc_c_types.specs.Tables.{variable_of}
use Rattle.mc_c_check.specs.Infos.{field_info, field_infos}
use Rattle.mc_c_check.proofs.Rows.{next_collected}
use Rattle.mc_c_check.proofs.infos.all_fields.Goals as goal

pub loop-field-preserved : goal.loop-field-preserved
loop-field-preserved c =
    next_collected (field_infos (tables_held c.args.tables.now)) field_of c.loop-field.infos c.add_fields.new.infos (map (λ d. field_info (variable_of (tables_held c.args.tables.now) c.field-item.result.base d)) c.as_slice.result.now) c.args.fields.now c.loop-field.field-index c.field-item.result
    c.loop-field-test.true c.field-item.is (ap (map (λ d. field_info (variable_of (tables_held c.args.tables.now) c.field-item.result.base d))) c.as_slice.ensures.value) c.in_ok-add_fields.ensures
    ∙ c.loop-field.invariant
