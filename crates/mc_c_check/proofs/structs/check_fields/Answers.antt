use Rattle.std.proofs.Common.{flat_map}
use Rattle.mc_c_syntax.specs.Ast.Views.{field_of}
use Rattle.mc_c_types.specs.Faults.{declarator_faults}
use Rattle.mc_c_types.specs.Held.{tables_held}
use Rattle.mc_c_check.proofs.Rows.{next_seen}
use Rattle.mc_c_check.proofs.structs.check_fields.Goals as goal

pub loop-field-preserved : goal.loop-field-preserved
loop-field-preserved c =
    let given = c.check_declarators.ensures in
    let whole = c.as_slice.ensures.value in
    let all = c.loop-field.invariant in
    let next = next_seen (λ field. flat_map (declarator_faults (tables_held c.args.tables.now) field.base) field.declarators) field_of c.loop-field.told.fault c.args.fields.now c.loop-field.field-index c.field-item.result c.loop-field-test.true c.field-item.is in
    cc
