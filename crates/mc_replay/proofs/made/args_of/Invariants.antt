use Rattle.std.proofs.Common.{◌≡◌, take}
use Rattle.mc_replay.proofs.made.args_of.Given as goal

abbrev pub invariant-loop-node : goal.invariant-loop-node
invariant-loop-node l = l.args ≡ take l.node-index l.nodes
