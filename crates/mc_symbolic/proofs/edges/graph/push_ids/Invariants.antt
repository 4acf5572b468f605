use Rattle.std.proofs.Common.{◌≡◌, ◌++◌, drop}
use Rattle.mc_symbolic.specs.Edges.Places.{ids_at}
use Rattle.mc_symbolic.proofs.edges.graph.push_ids.Given as goal

abbrev pub invariant-loop-e : goal.invariant-loop-e
invariant-loop-e l = l.fn.ids.items ++ ids_at l.edges l.node ≡ l.ids.items ++ ids_at (drop l.e-index l.edges) l.node
