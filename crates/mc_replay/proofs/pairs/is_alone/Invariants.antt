use Rattle.std.proofs.Common.{◌≡◌, drop}
use Rattle.mc_joins.specs.Joinings.{is_alone}
use Rattle.mc_replay.proofs.pairs.is_alone.Given as goal

abbrev pub invariant-loop-other : goal.invariant-loop-other
invariant-loop-other l = is_alone l.pairs l.side l.pair l.node ≡ is_alone (drop l.other-index l.pairs) l.side l.pair l.node
