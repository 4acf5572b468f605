use Rattle.std.proofs.Common.{◌≡◌, drop}
use Rattle.std.specs.Prelude.{zip}
use Rattle.mc_joins.specs.Joinings.{with_pairs}
use Rattle.mc_replay.proofs.made.put_all.Given as goal

abbrev pub invariant-loop-place : goal.invariant-loop-place
invariant-loop-place l = with_pairs l.initial.pairs.items (zip l.left l.right) ≡ with_pairs l.pairs.items (zip (drop l.place l.left) (drop l.place l.right))
