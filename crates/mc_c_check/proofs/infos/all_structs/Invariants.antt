use Rattle.std.proofs.Common.{◌≡◌, ◌++◌, map, drop}
use Rattle.mc_c_types.specs.Held.{tables_held}
use Rattle.mc_c_check.specs.Collected.{structs_held}
use Rattle.mc_c_check.specs.Infos.{struct_info}
use Rattle.mc_c_check.proofs.infos.all_structs.Given as goal

abbrev pub invariant-loop-tree : goal.invariant-loop-tree
invariant-loop-tree l =
    l.list ++ map (struct_info (tables_held l.tables)) (structs_held (drop l.tree-index l.structs)) ≡ map (struct_info (tables_held l.tables)) (structs_held l.structs)
