use Rattle.std.proofs.Common.{◌≡◌, ◌≢◌, ◌<◌, ◌≤◌, ℕ, length, get_or}
use Rattle.mc_state.specs.declared.raw_state.NodeKind.TheVariants.{Zero, Int}
use Rattle.mc_state_io.proofs.raw.building.begins_with_zero.Given as goal

abbrev pub invariant-loop-i : goal.invariant-loop-i
invariant-loop-i l = record {
  some : 0 < length l.kinds;
  first : get_or l.kinds 0 Zero ≡ Zero;
  others : (k : ℕ) → 1 ≤ k → k < l.i → get_or l.kinds k Int ≢ Zero;
}
