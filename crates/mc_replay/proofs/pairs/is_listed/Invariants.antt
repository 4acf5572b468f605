use Rattle.std.proofs.Common.{◌≡◌, drop}
use Rattle.std.specs.List.{list_any}
use Rattle.mc_joins.specs.Joinings.{same_pair}
use Rattle.mc_replay.proofs.pairs.is_listed.Given as goal

abbrev pub invariant-loop-other : goal.invariant-loop-other
invariant-loop-other l = list_any (same_pair l.pair) l.pairs ≡ list_any (same_pair l.pair) (drop l.other-index l.pairs)
