use Rattle.std.proofs.Common.{◌≡◌, drop, flat_map, map}
use Rattle.mc_c_syntax.specs.Ast.Views.{item_of}
use Rattle.mc_c_types.specs.First.{told_of}
use Rattle.mc_c_types.specs.Held.{tables_held}
use Rattle.mc_c_types.specs.Shapes.{item_uses, use_faults}
use Rattle.mc_c_check.proofs.shapes.check_items.Given as goal

abbrev pub invariant-loop-item : goal.invariant-loop-item
invariant-loop-item l =
    told_of l.told.fault (flat_map (λ item. flat_map (use_faults l.defs) (item_uses (tables_held l.tables) item)) (map item_of (drop l.item-index l.items))) ≡ told_of l.initial.told.fault (flat_map (λ item. flat_map (use_faults l.defs) (item_uses (tables_held l.tables) item)) (map item_of l.items))
