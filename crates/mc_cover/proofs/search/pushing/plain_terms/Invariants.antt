use Rattle.std.proofs.Common.{◌≡◌, map, take}
use Rattle.mc_state.specs.Terms.{plain}
use Rattle.mc_cover.proofs.search.pushing.plain_terms.Given as goal

abbrev pub invariant-loop-node : goal.invariant-loop-node
invariant-loop-node l = l.terms.items ≡ map plain (take l.node-index l.nodes)
