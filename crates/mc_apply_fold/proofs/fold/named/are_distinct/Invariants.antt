use Rattle.std.proofs.Common.{◌≡◌, drop}
use Rattle.mc_state.specs.Named.{are_distinct}
use Rattle.mc_apply_fold.proofs.fold.named.are_distinct.Given as goal

abbrev pub invariant-loop-i : goal.invariant-loop-i
invariant-loop-i l = are_distinct l.ids ≡ are_distinct (drop l.i l.ids)
