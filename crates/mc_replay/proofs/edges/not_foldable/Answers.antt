use Rattle.std.proofs.Common.{◌∙◌, ap, List}
use Rattle.std.specs.Prelude.{not, filter}
use Rattle.mc_base.specs.declared.ids.EdgeId.{EdgeId}
use Rattle.mc_state.specs.Graph.Graph.{Edges}
use Rattle.mc_state.specs.Named.{others}
use Rattle.mc_cover.specs.Marks.{ids_of}
use Rattle.mc_replay.specs.Seen.{starts_alone, may_fold}
use Rattle.mc_replay.proofs.Finding.{foldable}
use Rattle.mc_replay.proofs.edges.not_foldable.Goals as goal

pub returns : goal.returns
returns c =
    let g = c.args.state.now.graph in
    ap (λ (ids : List EdgeId). others g.edges ids)
    (c.in_ok-ids.ensures
    ∙ ap (λ (z : Edges). ids_of (filter (λ e. not (may_fold c.args.used.now c.args.pairs.now c.args.side c.args.pair.now e)) z)) c.edges.ensures)
    ∙ foldable c.args.used.now (starts_alone c.args.pairs.now c.args.side c.args.pair.now) g.edges g.next c.is_bounded.ensures.bounded.ids
