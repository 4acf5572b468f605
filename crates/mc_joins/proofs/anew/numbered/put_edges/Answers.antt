use Rattle.mc_base.specs.declared.ids.EdgeId.{EdgeId}
use Rattle.mc_state.specs.declared.graph.edge.Edge.{Edge}
use Rattle.mc_state.specs.Graph.Edges.{moved_edge}
use Rattle.mc_pure_ops.specs.Renaming.Images.{image}
use Rattle.mc_joins.proofs.AnewLemmas.Filling.{edges_next}
use Rattle.mc_joins.proofs.anew.numbered.put_edges.Goals as goal

pub loop-entry-preserved : goal.loop-entry-preserved
loop-entry-preserved c =
    edges_next (λ (e : EdgeId × Edge). moved_edge (image c.args.renaming.now) e.1) c.args.fresh.now c.loop-entry.fresh c.add_edge.new.self c.args.edges.now
    c.loop-entry.entry-index c.entry-item.result c.in_ok-edge.edge c.loop-entry-test.true c.loop-entry.invariant c.in_ok-edge.ensures c.entry-item.is c.in_ok-add_edge.ensures.ok
