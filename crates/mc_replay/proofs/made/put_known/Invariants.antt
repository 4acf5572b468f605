use Rattle.std.proofs.Common.{◌≡◌, drop}
use Rattle.mc_joins.specs.Joinings.{with_pairs, known_both}
use Rattle.mc_replay.proofs.made.put_known.Given as goal

abbrev pub invariant-loop-place : goal.invariant-loop-place
invariant-loop-place l = with_pairs l.initial.pairs.items (known_both l.left l.right) ≡ with_pairs l.pairs.items (known_both (drop l.place l.left) (drop l.place l.right))
