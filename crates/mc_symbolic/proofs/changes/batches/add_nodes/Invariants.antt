use Rattle.std.proofs.Common.{◌≡◌, ◌++◌, drop, length}
use Rattle.mc_state.specs.State.{with_nodes, numbered_nodes}
use Rattle.mc_symbolic.proofs.changes.batches.add_nodes.Given as goal

abbrev pub invariant-loop-kind : goal.invariant-loop-kind
invariant-loop-kind l =
    (with_nodes l.s (drop l.kind-index l.kinds) ≡ with_nodes l.fn.s l.kinds)
    × (l.nodes.items ++ numbered_nodes l.s.next (length (drop l.kind-index l.kinds)) ≡ l.fn.nodes.items ++ numbered_nodes l.fn.s.next (length l.kinds))
