use Rattle.std.proofs.Common.{◌≡◌, ◌≤◌, take}
use Rattle.mc_state_io.specs.Raw.Raw.{begun}
use Rattle.mc_state_io.proofs.raw.building.with_kinds.Given as goal

abbrev pub invariant-loop-i : goal.invariant-loop-i
invariant-loop-i l = record {
  from : 1 ≤ l.i;
  is : l.state ≡ begun l.vars (take l.i l.kinds);
}
