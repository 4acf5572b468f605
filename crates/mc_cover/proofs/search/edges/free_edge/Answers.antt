use Rattle.std.proofs.Common.{sym, ◌∙◌}
use Rattle.mc_cover.proofs.SearchLemmas.Left.{free_used, free_unused}
use Rattle.mc_cover.proofs.search.edges.free_edge.Goals as goal

pub returns-then-is_used : goal.returns-then-is_used
returns-then-is_used c =
    let g = c.args.state.now.graph in
    sym (free_used g.edges g.next c.args.used.now c.args.id c.is_bounded.ensures.bounded.ids (sym c.if-is_used.ensures))

pub returns : goal.returns
returns c =
    let g = c.args.state.now.graph in
    c.edge.ensures ∙ sym (free_unused g.edges g.next c.args.used.now c.args.id c.is_bounded.ensures.bounded.ids (sym c.if-is_used.ensures))
