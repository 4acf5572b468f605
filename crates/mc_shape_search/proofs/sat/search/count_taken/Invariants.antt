use Rattle.std.proofs.Common.{◌≡◌, ◌≤◌, length, take}
use Rattle.mc_shape_search.specs.Sat.Marks.{taken}
use Rattle.mc_shape_search.proofs.sat.search.count_taken.Given as goal

abbrev pub invariant-loop-mark : goal.invariant-loop-mark
invariant-loop-mark l = record { counted : l.count ≡ length (taken (take l.mark-index l.log)); few : l.count ≤ l.mark-index }
