use Rattle.std.proofs.Common.{◌≡◌, drop}
use Rattle.mc_state.specs.Named.{others}
use Rattle.mc_state.specs.State.{with_only_edges}
use Rattle.mc_symbolic.proofs.changes.batches.take_edges.Given as goal

abbrev pub invariant-loop-id : goal.invariant-loop-id
invariant-loop-id l =
    with_only_edges l.s (others l.s.graph.edges (drop l.id-index l.ids)) ≡ with_only_edges l.fn.s (others l.fn.s.graph.edges l.ids)
