use Rattle.std.proofs.Common.{◌≡◌, ◌++◌, map, flat_map, drop}
use Rattle.mc_c_syntax.specs.Ast.Views.{item_of}
use Rattle.mc_c_types.specs.Held.{tables_held}
use Rattle.mc_c_types.specs.Calls.{item_sites}
use Rattle.mc_c_check.specs.Graphs.{edge_of}
use Rattle.mc_c_check.proofs.calls.collect_edges.Given as goal

abbrev pub invariant-loop-item : goal.invariant-loop-item
invariant-loop-item l =
    l.edges ++ map (edge_of (tables_held l.tables).functions) (flat_map item_sites (map item_of (drop l.item-index l.items))) ≡ map (edge_of (tables_held l.tables).functions) (flat_map item_sites (map item_of l.items))
