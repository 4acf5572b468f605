use Rattle.std.proofs.Common.{◌≡◌, drop, length}
use Rattle.mc_state.specs.Known.{Test, Tells}
use Rattle.mc_cover.specs.Terms.{all_equal_terms}
use Rattle.mc_cover.proofs.search.terms.are_all_equal.Given as goal

abbrev pub invariant-loop-i : goal.invariant-loop-i
invariant-loop-i l = record {
  told : (know : Test) → Tells know l.state → all_equal_terms know l.left l.right ≡ all_equal_terms know (drop l.i l.left) (drop l.i l.right);
  lengths : length l.left ≡ length l.right;
}
