use Rattle.std.proofs.Common.{◌∙◌, ap, flat_map, map, refl}
use Rattle.mc_c_syntax.specs.Ast.Views.{item_of, unit_of}
use Rattle.mc_c_types.specs.Faults.{item_tree_faults, table_faults}
use Rattle.mc_c_types.specs.First.{told_of}
use Rattle.mc_c_types.specs.Held.{tables_held}
use Rattle.mc_c_check.proofs.Rows.{plain_noted}
use Rattle.mc_c_check.proofs.Swaps.{told_swapped}
use Rattle.mc_c_check.proofs.check.check_plain.Goals as goal

pub returns : goal.returns
returns c =
    let t = tables_held c.args.tables.now in
    let tables = table_faults (map item_of c.as_slice-2.result.now) t in
    let items = flat_map (item_tree_faults t) (map item_of c.as_slice.result.now) in
    plain_noted (unit_of c.args.unit.now) (map item_of c.as_slice-2.result.now) (map item_of c.as_slice.result.now) t c.args.told.now.fault (told_of c.args.told.now.fault tables) c.check_tables.new.told.fault
    c.requires (ap (map item_of) c.as_slice-2.ensures.value) (ap (map item_of) c.as_slice.ensures.value) refl
    (c.in_ok-check_tables.ensures ∙ ap (λ o. told_of o tables) c.in_ok-check_items.ensures ∙ told_swapped c.args.told.now.fault items tables)
