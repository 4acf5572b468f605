use Rattle.std.proofs.Common.{◌≡◌, take, map}
use Rattle.mc_state.specs.Terms.{plain}
use Rattle.mc_replay.proofs.covers.plain_all.Given as goal

abbrev pub invariant-loop-node : goal.invariant-loop-node
invariant-loop-node l = l.terms.items ≡ map plain (take l.node-index l.nodes)
