use Rattle.std.proofs.Common.{◌≡◌, ℕ, ◌<◌, ◌≤◌, ◌-◌, length, slice_get, Some}
use Rattle.mc_pure_ops.proofs.RenamingLemmas.Looking.{Pair}
use Rattle.mc_pure_ops.proofs.renaming.place_in.Given as goal

abbrev pub invariant-loop-low : goal.invariant-loop-low
invariant-loop-low l = record {
  order : l.low ≤ l.high;
  bound : l.high ≤ length l.pairs;
  below : (i : ℕ) (a : Pair) → i < l.low → slice_get l.pairs i ≡ Some a → a.0.0 < l.node.0;
  above : (i : ℕ) (a : Pair) → l.high ≤ i → slice_get l.pairs i ≡ Some a → l.node.0 ≤ a.0.0;
}

abbrev pub decreases-loop-low : goal.decreases-loop-low
decreases-loop-low l = l.high - l.low
