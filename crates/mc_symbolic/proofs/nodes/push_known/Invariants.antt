use Rattle.std.proofs.Common.{◌≡◌, ◌++◌, drop}
use Rattle.mc_state.specs.Graph.Edges.{known_nodes}
use Rattle.mc_symbolic.proofs.nodes.push_known.Given as goal

abbrev pub invariant-loop-field : goal.invariant-loop-field
invariant-loop-field l = l.fn.list.items ++ known_nodes l.fields ≡ l.list.items ++ known_nodes (drop l.field-index l.fields)
