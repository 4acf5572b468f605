use Rattle.std.proofs.Common.{◌≡◌, true, false, refl, arith}
use Rattle.mc_state.specs.declared.graph.edge.Edge.{Edge}
use Rattle.mc_state_io.specs.Raw.Raw.{EdgeFits}
use Rattle.mc_state.proofs.Lists.{each_all}
use Rattle.mc_state_io.proofs.RawLemmas.Items.{named_here, named_more}
use Rattle.mc_state_io.proofs.raw.fitting.all_edges_fit.Goals as goal

pub returns-then-not-edge_fits : goal.returns-then-not-edge_fits
returns-then-not-edge_fits c = (
  λ t. let w : false ≡ true = t in absurd (cc w),
  λ all. let w = c.if-not-edge_fits.ensures.1 (named_here (λ (e : Edge). EdgeFits c.args.defs.now c.args.structs.now c.args.state.now.kinds e) c.args.edges.now _ refl c.loop-edge.edge-index c.edge-item.result (omega arith) c.edge-item.is all) in absurd (cc w),
)

pub loop-edge-preserved : goal.loop-edge-preserved
loop-edge-preserved c = named_more (λ (e : Edge). EdgeFits c.args.defs.now c.args.structs.now c.args.state.now.kinds e) c.args.edges.now _ refl c.loop-edge.edge-index c.edge-item.result (omega arith) c.edge-item.is c.loop-edge.invariant (c.if-not-edge_fits.ensures.0 refl)

pub returns : goal.returns
returns c = (λ t. each_all (λ (e : Edge). EdgeFits c.args.defs.now c.args.structs.now c.args.state.now.kinds e) c.args.edges.now _ refl c.loop-edge.edge-index (omega arith) c.loop-edge.invariant, λ all. refl)
