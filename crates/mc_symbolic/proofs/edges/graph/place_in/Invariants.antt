use Rattle.std.proofs.Common.{◌≡◌, ℕ, ◌<◌, ◌≤◌, ◌-◌, length, slice_get, Some}
use Rattle.mc_base.specs.declared.ids.EdgeId.{EdgeId}
use Rattle.mc_state.specs.declared.graph.edge.Edge.{Edge}
use Rattle.mc_symbolic.proofs.edges.graph.place_in.Given as goal

abbrev pub invariant-loop-low : goal.invariant-loop-low
invariant-loop-low l = record {
  order : l.low ≤ l.high;
  bound : l.high ≤ length l.edges;
  below : (i : ℕ) (a : EdgeId × Edge) → i < l.low → slice_get l.edges i ≡ Some a → a.0.0 < l.id.0;
  above : (i : ℕ) (a : EdgeId × Edge) → l.high ≤ i → slice_get l.edges i ≡ Some a → l.id.0 ≤ a.0.0;
}

abbrev pub decreases-loop-low : goal.decreases-loop-low
decreases-loop-low l = l.high - l.low
