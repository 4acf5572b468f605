use Rattle.std.proofs.Common.{flat_map, map, sym, ◌∙◌}
use Rattle.mc_c_syntax.specs.Ast.Views.{item_of}
use Rattle.mc_c_types.specs.Calls.{item_sites}
use Rattle.mc_c_types.specs.Held.{tables_held}
use Rattle.mc_c_check.proofs.Recursions.{all_within}
use Rattle.mc_c_check.proofs.Repeats.{tree_of}
use Rattle.mc_c_check.proofs.Rows.{length_mapped}
use Rattle.mc_c_check.proofs.recursion.check_recursion.Goals as goal

pub check_edges-requires : goal.check_edges-requires
check_edges-requires c =
    rw c.as_slice.ensures
    (rw c.in_ok-edges.ensures
    (all_within (tables_held c.args.tables.now).functions (flat_map item_sites (map item_of c.args.items.now)) c.len.result (length_mapped tree_of c.args.tables.now.functions ∙ sym c.len.ensures)))
