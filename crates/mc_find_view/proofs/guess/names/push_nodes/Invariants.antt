use Rattle.std.proofs.Common.{◌≡◌, ◌++◌, Some, map, take}
use Rattle.mc_state.specs.Terms.{plain}
use Rattle.mc_find_view.proofs.guess.names.push_nodes.Given as goal

abbrev pub invariant-loop-node : goal.invariant-loop-node
invariant-loop-node l = l.names.items ≡ l.fn.names.items ++ map (λ n. Some (plain n)) (take l.node-index l.nodes)
