use Rattle.std.proofs.Common.{flat_map, []}
use Rattle.mc_c_syntax.specs.Ast.Views.{struct_of}
use Rattle.mc_c_types.specs.Faults.{declarator_faults, repeated}
use Rattle.mc_c_types.specs.Held.{tables_held}
use Rattle.mc_c_check.specs.Collected.{field_names}
use Rattle.mc_c_check.proofs.Rows.{told_append}
use Rattle.mc_c_check.proofs.structs.check_struct.Goals as goal

pub returns : goal.returns
returns c =
    let types = c.check_fields.ensures in
    let listed = c.in_ok-names.ensures in
    let names = c.in_ok-check_repeated.ensures in
    let whole = c.as_slice.ensures.value in
    let again = c.as_slice-2.ensures.value in
    let given = c.as_slice-3.ensures in
    let both = told_append c.args.told.now.fault (flat_map (λ field. flat_map (declarator_faults (tables_held c.args.tables.now) field.base) field.declarators) (struct_of c.args.tree.now).fields) (repeated [] (field_names (struct_of c.args.tree.now).fields)) in
    cc
