use Rattle.std.proofs.Common.{◌≡◌, drop}
use Rattle.std.specs.Prelude.{find}
use Rattle.mc_joins.specs.Joinings.{has_edge}
use Rattle.mc_replay.specs.Joined.{seen}
use Rattle.mc_replay.proofs.joining.Joining.next_pair.Given as goal

abbrev pub invariant-loop-pair : goal.invariant-loop-pair
invariant-loop-pair l = find (has_edge (seen l.self)) l.self.pairs.items ≡ find (has_edge (seen l.self)) (drop l.pair-index l.self.pairs.items)
