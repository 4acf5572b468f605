use Rattle.std.proofs.Common.{◌≡◌, ◌+◌, ◌≤◌, drop, length}
use Rattle.std.specs.List.{position_or_len}
use Rattle.mc_joins.specs.Joinings.{same_pair}
use Rattle.mc_replay.proofs.pairs.node_for.Given as goal

abbrev pub invariant-loop-place : goal.invariant-loop-place
invariant-loop-place l =
    (position_or_len (same_pair l.pair) l.pairs ≡ l.place + position_or_len (same_pair l.pair) (drop l.place l.pairs)) × (l.place ≤ length l.pairs)
