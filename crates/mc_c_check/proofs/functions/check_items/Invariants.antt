use Rattle.std.proofs.Common.{◌≡◌, flat_map, drop, map}
use Rattle.mc_c_syntax.specs.Ast.Views.{item_of}
use Rattle.mc_c_types.specs.Faults.{item_tree_faults}
use Rattle.mc_c_types.specs.First.{told_of}
use Rattle.mc_c_types.specs.Held.{tables_held}
use Rattle.mc_c_check.proofs.functions.check_items.Given as goal

abbrev pub invariant-loop-item : goal.invariant-loop-item
invariant-loop-item l =
    told_of l.told.fault (flat_map (item_tree_faults (tables_held l.tables)) (map item_of (drop l.item-index l.items))) ≡ told_of l.initial.told.fault (flat_map (item_tree_faults (tables_held l.tables)) (map item_of l.items))
