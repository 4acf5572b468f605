use Rattle.std.proofs.Common.{◌∷◌}
use Rattle.mc_state.specs.declared.graph.edge.Edge.TheVariants.{Seg}
use Rattle.mc_state.specs.Graph.Edges.{nodes_of}
use Rattle.mc_pure.specs.Pure.{IsNode}
use Rattle.mc_state.specs.Fits.{AreNodes}
use Rattle.mc_apply_fold.proofs.ChangeLemmas.Naming.{both_parts}
use Rattle.mc_apply_fold.proofs.change.segments.named_edges_are_here.Goals as goal
use Rattle.mc_rules_logic.proofs.UnfoldLemmas.Judging.{edge_fits}

pub returns : goal.returns
returns c = λ kinds es id at args pred stop ends all there.
    let here = edge_fits (λ e. AreNodes kinds (nodes_of e)) es id (Seg at args pred stop ends) there all in
    let parts = both_parts (IsNode kinds) args (stop ∷ ends) here.1 in
    ((here.0, parts.0), parts.1)
