use Rattle.std.proofs.Common.{◌∙◌, ap}
use Rattle.std.specs.Prelude.{find}
use Rattle.mc_state.specs.Graph.Graph.{Edges}
use Rattle.mc_replay.specs.Seen.{starts_there, is_here}
use Rattle.mc_replay.proofs.Finding.{free_found}
use Rattle.mc_replay.proofs.edges.edge_from.Goals as goal

pub returns : goal.returns
returns c =
    let g = c.args.state.now.graph in
    c.first_here.ensures ∙ (ap (λ (z : Edges). find (is_here c.args.used.now c.args.node) z) c.edges.ensures
    ∙ free_found c.args.used.now (starts_there c.args.node) g.edges g.next c.is_bounded.ensures.bounded.ids)
