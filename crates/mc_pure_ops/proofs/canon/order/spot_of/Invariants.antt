use Rattle.std.proofs.Common.{◌≡◌, ℕ, ◌<◌, ◌≤◌, ◌-◌, length}
use Rattle.mc_pure_ops.specs.Canon.Order.{FitsAfter, FitsBefore}
use Rattle.mc_pure_ops.proofs.canon.order.spot_of.Given as goal

abbrev pub invariant-loop-low : goal.invariant-loop-low
invariant-loop-low l = record {
  order : l.low ≤ l.high;
  bound : l.high ≤ length l.list;
  below : FitsAfter l.list l.atom l.low;
  above : FitsBefore l.list l.atom l.high;
}

abbrev pub decreases-loop-low : goal.decreases-loop-low
decreases-loop-low l = l.high - l.low
