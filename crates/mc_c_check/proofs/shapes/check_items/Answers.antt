use Rattle.std.proofs.Common.{◌∙◌, flat_map}
use Rattle.mc_c_syntax.specs.Ast.Views.{item_of}
use Rattle.mc_c_types.specs.Held.{tables_held}
use Rattle.mc_c_types.specs.Shapes.{item_uses, use_faults}
use Rattle.mc_c_check.proofs.Rows.{next_seen}
use Rattle.mc_c_check.proofs.shapes.check_items.Goals as goal

pub loop-item-preserved : goal.loop-item-preserved
loop-item-preserved c =
    rw c.in_ok-check_item.ensures
    (next_seen (λ item. flat_map (use_faults c.args.defs.now) (item_uses (tables_held c.args.tables.now) item)) item_of c.loop-item.told.fault c.args.items.now c.loop-item.item-index c.item-item.result c.loop-item-test.true c.item-item.is ∙ c.loop-item.invariant)
