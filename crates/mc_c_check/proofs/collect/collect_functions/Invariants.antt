use Rattle.std.proofs.Common.{◌≡◌, ◌++◌, map, flat_map, drop}
use Rattle.mc_c_syntax.specs.Ast.Views.{item_of}
use Rattle.mc_c_types.specs.Tables.{item_functions}
use Rattle.mc_c_check.specs.Collected.{functions_held}
use Rattle.mc_c_check.proofs.collect.collect_functions.Given as goal

abbrev pub invariant-loop-item : goal.invariant-loop-item
invariant-loop-item l = functions_held l.functions ++ flat_map item_functions (map item_of (drop l.item-index l.items)) ≡ flat_map item_functions (map item_of l.items)
