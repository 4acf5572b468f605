use Rattle.std.proofs.Common.{◌≡◌, ◌++◌, map, flat_map, drop}
use Rattle.mc_c_syntax.specs.Ast.Views.{item_of}
use Rattle.mc_c_types.specs.Faults.{typedef_names}
use Rattle.mc_c_check.specs.Collected.{names_held}
use Rattle.mc_c_check.proofs.prototypes.alias_names.Given as goal

abbrev pub invariant-loop-item : goal.invariant-loop-item
invariant-loop-item l = names_held l.names ++ flat_map typedef_names (map item_of (drop l.item-index l.items)) ≡ flat_map typedef_names (map item_of l.items)
