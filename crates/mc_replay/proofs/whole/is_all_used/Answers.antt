use Rattle.std.proofs.Common.{◌≡◌, ◌<◌, ◌≤◌, List, length, sym, subst, ◌∙◌, false, get_or, drop}
use Rattle.std.specs.Prelude.{filter}
use Rattle.mc_base.specs.declared.ids.EdgeId.{EdgeId}
use Rattle.mc_state.specs.Graph.Graph.{Edges}
use Rattle.mc_state.specs.Named.{is_among}
use Rattle.mc_cover.specs.Search.Setting.{is_unused}
use Rattle.mc_replay.proofs.WholeLemmas.Putting.{one_left_out, all_are_used}
use Rattle.mc_replay.proofs.whole.is_all_used.Goals as goal

pub returns-then-not-is_used : goal.returns-then-not-is_used
returns-then-not-is_used c =
    let g = c.args.half.now.state.graph in
    let used = c.args.half.now.used.items in
    one_left_out used g.edges g.next c.loop-entry.entry-index c.entry-item.result c.is_bounded.ensures.bounded.ids
    (subst (λ (es : Edges). c.loop-entry.entry-index < length es) c.edges-entry-items.ensures c.loop-entry-test.true)
    (subst (λ (es : Edges). c.entry-item.result ≡ get_or es c.loop-entry.entry-index c.entry-item.result) c.edges-entry-items.ensures c.entry-item.is)
    (subst (λ (ids : List EdgeId). is_among c.entry-item.result.0 ids ≡ false) c.as_slice.ensures.value (sym c.is_used.ensures ∙ c.if-not-is_used.true))
    (subst (λ (es : Edges). filter (is_unused used) es ≡ filter (is_unused used) (drop c.loop-entry.entry-index es)) c.edges-entry-items.ensures c.loop-entry.invariant)

pub returns : goal.returns
returns c =
    let g = c.args.half.now.state.graph in
    let used = c.args.half.now.used.items in
    all_are_used used g.edges g.next c.loop-entry.entry-index c.is_bounded.ensures.bounded.ids
    (subst (λ (es : Edges). length es ≤ c.loop-entry.entry-index) c.edges-entry-items.ensures c.loop-entry-test.false)
    (subst (λ (es : Edges). filter (is_unused used) es ≡ filter (is_unused used) (drop c.loop-entry.entry-index es)) c.edges-entry-items.ensures c.loop-entry.invariant)
