use Rattle.std.proofs.Common.{◌≡◌, ◌++◌, drop}
use Rattle.mc_joins.specs.Steps.{nodes_for}
use Rattle.mc_replay.proofs.made.all_for.Given as goal

abbrev pub invariant-loop-place : goal.invariant-loop-place
invariant-loop-place l = nodes_for l.pairs l.left l.right ≡ l.nodes.items ++ nodes_for l.pairs (drop l.place l.left) (drop l.place l.right)
