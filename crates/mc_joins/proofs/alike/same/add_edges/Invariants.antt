use Rattle.std.proofs.Common.{◌≡◌, ◌++◌, drop}
use Rattle.mc_joins.specs.Alike.Named.{edge_nodes}
use Rattle.mc_joins.proofs.alike.same.add_edges.Given as goal

abbrev pub invariant-loop-entry : goal.invariant-loop-entry
invariant-loop-entry l = l.fn.list.items ++ edge_nodes l.edges ≡ l.list.items ++ edge_nodes (drop l.entry-index l.edges)
