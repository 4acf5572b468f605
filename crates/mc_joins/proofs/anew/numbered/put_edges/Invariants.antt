use Rattle.std.proofs.Common.{◌≡◌, take, map}
use Rattle.mc_state.specs.Graph.Edges.{moved_edge}
use Rattle.mc_pure_ops.specs.Renaming.Images.{image}
use Rattle.mc_state.specs.State.{with_edges}
use Rattle.mc_joins.proofs.anew.numbered.put_edges.Given as goal

abbrev pub invariant-loop-entry : goal.invariant-loop-entry
invariant-loop-entry l = l.fresh ≡ with_edges l.fn.fresh (map (λ e. moved_edge (image l.renaming) e.1) (take l.entry-index l.edges))
