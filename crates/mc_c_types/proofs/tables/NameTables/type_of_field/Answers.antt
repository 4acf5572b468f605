use Rattle.std.proofs.Common.{◌≡◌, map, ap, sym, Some, None}
use Rattle.mc_c_types.specs.Tables.{type_in, variable_of}
use Rattle.mc_c_types.specs.Held.{tables_held}
use Rattle.mc_c_types.proofs.FieldLists.{found_here, found_later}
use Rattle.mc_c_types.proofs.tables.NameTables.type_of_field.Goals as goal

pub returns-in-Some : goal.returns-in-Some
returns-in-Some c =
    let whole = c.as_slice.ensures.value in
    let given = c.declared_in.ensures in
    let some = c.in-Some.is in
    let all = c.loop-field.invariant in
    let item : type_in (map (variable_of (tables_held c.args.self.now) c.field-item.result.base) c.field-item.result.declarators.items) c.args.name.now ≡ Some c.in-Some.found = rw (sym whole) (cc) in
    let here = found_here (tables_held c.args.self.now) c.args.fields.now c.loop-field.field-index c.field-item.result c.args.name.now c.in-Some.found c.loop-field-test.true c.field-item.is item in
    cc

pub loop-field-preserved : goal.loop-field-preserved
loop-field-preserved c =
    let whole = c.as_slice.ensures.value in
    let given = c.declared_in.ensures in
    let none = c.in-None.is in
    let all = c.loop-field.invariant in
    let item : type_in (map (variable_of (tables_held c.args.self.now) c.field-item.result.base) c.field-item.result.declarators.items) c.args.name.now ≡ None = rw (sym whole) (cc) in
    let later = found_later (tables_held c.args.self.now) c.args.fields.now c.loop-field.field-index c.field-item.result c.args.name.now c.loop-field-test.true c.field-item.is item in
    cc
