use Rattle.std.proofs.Common.{◌≡◌, drop, length}
use Rattle.mc_state.specs.Lists.{all_both}
use Rattle.mc_cover.specs.Alike.{same_node}
use Rattle.mc_cover.proofs.search.alike.same_nodes.Given as goal

abbrev pub invariant-loop-i : goal.invariant-loop-i
invariant-loop-i l = record {
  same : all_both same_node l.left l.right ≡ all_both same_node (drop l.i l.left) (drop l.i l.right);
  lengths : length l.left ≡ length l.right;
}
