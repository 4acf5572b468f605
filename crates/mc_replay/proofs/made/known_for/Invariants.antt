use Rattle.std.proofs.Common.{◌≡◌, ◌++◌, drop}
use Rattle.mc_joins.specs.Steps.{known_for}
use Rattle.mc_replay.proofs.made.known_for.Given as goal

abbrev pub invariant-loop-place : goal.invariant-loop-place
invariant-loop-place l = known_for l.pairs l.left l.right ≡ l.nodes.items ++ known_for l.pairs (drop l.place l.left) (drop l.place l.right)
