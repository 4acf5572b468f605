use Rattle.std.proofs.Common.{arith}
use Rattle.mc_state_io.proofs.RawLemmas.Built.{edge_there, edges_step}
use Rattle.mc_state_io.proofs.raw.building.put_edges.Goals as goal

pub add_edge-requires : goal.add_edge-requires
add_edge-requires c = edge_there c.loop-edge.state c.args.state.now c.args.edges.now c.loop-edge.edge-index c.edge-item.result c.in_ok-copy.field-0 (omega arith) c.edge-item.is c.in_ok-copy.ensures c.loop-edge.invariant c.requires

pub loop-edge-preserved : goal.loop-edge-preserved
loop-edge-preserved c = edges_step c.loop-edge.state c.args.state.now c.add_edge.new.self c.args.edges.now c.loop-edge.edge-index c.edge-item.result c.in_ok-copy.field-0 (omega arith) c.edge-item.is c.in_ok-copy.ensures c.loop-edge.invariant c.in_ok-add_edge.ensures.ok
