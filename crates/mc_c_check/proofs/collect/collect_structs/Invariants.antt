use Rattle.std.proofs.Common.{◌≡◌, ◌++◌, map, drop}
use Rattle.mc_c_syntax.specs.Ast.Views.{item_of}
use Rattle.mc_c_types.specs.Tables.{unit_structs}
use Rattle.mc_c_check.specs.Collected.{structs_held}
use Rattle.mc_c_check.proofs.collect.collect_structs.Given as goal

abbrev pub invariant-loop-item : goal.invariant-loop-item
invariant-loop-item l = structs_held l.structs ++ unit_structs (map item_of (drop l.item-index l.items)) ≡ unit_structs (map item_of l.items)
