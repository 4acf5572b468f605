use Rattle.std.proofs.Common.{◌≡◌, drop}
use Rattle.mc_replay.specs.Joined.{seen}
use Rattle.mc_replay.specs.Whole.{with_pair_nodes}
use Rattle.mc_replay.proofs.whole.put_nodes.Given as goal

abbrev pub invariant-loop-place : goal.invariant-loop-place
invariant-loop-place l = with_pair_nodes (seen l.join) l.out (drop l.place l.pairs) ≡ with_pair_nodes (seen l.join) l.fn.out (drop 1 l.pairs)
