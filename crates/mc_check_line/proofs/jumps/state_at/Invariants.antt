use Rattle.std.proofs.Common.{◌≡◌, drop, map, slice_get}
use Rattle.mc_kernel.specs.Branches.{states_at}
use Rattle.mc_check_line.specs.Judging.{head_of}
use Rattle.mc_check_line.proofs.jumps.state_at.Given as goal

abbrev pub invariant-loop-head : goal.invariant-loop-head
invariant-loop-head l =
    slice_get (states_at l.point (map head_of (drop l.head-index l.heads))) l.left ≡ slice_get (states_at l.point (map head_of l.heads)) l.number
