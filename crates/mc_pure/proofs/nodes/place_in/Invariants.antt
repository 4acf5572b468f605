use Rattle.std.proofs.Common.{◌≡◌, ℕ, ◌<◌, ◌≤◌, ◌-◌, length, slice_get, Some}
use Rattle.mc_base.specs.declared.ids.NodeId.{NodeId}
use Rattle.mc_pure.proofs.nodes.place_in.Given as goal

abbrev pub invariant-loop-low : goal.invariant-loop-low
invariant-loop-low l = record {
  order : l.low ≤ l.high;
  bound : l.high ≤ length l.nodes;
  below : (i : ℕ) (a : NodeId) → i < l.low → slice_get l.nodes i ≡ Some a → a.0 < l.node.0;
  above : (i : ℕ) (a : NodeId) → l.high ≤ i → slice_get l.nodes i ≡ Some a → l.node.0 ≤ a.0;
}

abbrev pub decreases-loop-low : goal.decreases-loop-low
decreases-loop-low l = l.high - l.low
