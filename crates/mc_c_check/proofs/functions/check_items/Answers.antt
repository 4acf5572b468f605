use Rattle.std.proofs.Common.{◌∙◌}
use Rattle.mc_c_syntax.specs.Ast.Views.{item_of}
use Rattle.mc_c_types.specs.Faults.{item_tree_faults}
use Rattle.mc_c_types.specs.Held.{tables_held}
use Rattle.mc_c_check.proofs.Rows.{next_seen}
use Rattle.mc_c_check.proofs.functions.check_items.Goals as goal

pub loop-item-preserved : goal.loop-item-preserved
loop-item-preserved c =
    rw c.in_ok-check_item.ensures
    (next_seen (item_tree_faults (tables_held c.args.tables.now)) item_of c.loop-item.told.fault c.args.items.now c.loop-item.item-index c.item-item.result c.loop-item-test.true c.item-item.is ∙ c.loop-item.invariant)
