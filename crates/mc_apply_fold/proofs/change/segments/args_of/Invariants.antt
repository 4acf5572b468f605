use Rattle.std.proofs.Common.{◌≡◌, ◌++◌, drop}
use Rattle.mc_apply_fold.proofs.change.segments.args_of.Given as goal

abbrev pub invariant-loop-node : goal.invariant-loop-node
invariant-loop-node l = l.args ++ drop l.node-index l.nodes ≡ l.nodes
