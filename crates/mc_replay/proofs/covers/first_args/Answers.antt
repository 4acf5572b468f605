use Rattle.std.proofs.Common.{◌≡◌, ◌<◌, ◌≤◌, None, Option, List, Bor, option_map, length, get_or, sym, ap, ◌∙◌}
use Rattle.std.specs.Option.{option_copied}
use Rattle.mc_base.specs.declared.ids.EdgeId.{EdgeId}
use Rattle.mc_base.specs.declared.ids.NodeId.{NodeId}
use Rattle.mc_state.specs.Terms.{plain}
use Rattle.mc_cover.specs.Guessed.{summary_of}
use Rattle.mc_find_view.proofs.GuessLemmas.Firsts.{free_first, free_none, free_some}
use Rattle.mc_replay.proofs.covers.first_args.Goals as goal

pub loop-entry-preserved : goal.loop-entry-preserved
loop-entry-preserved c = λ know t.
    let g = c.args.state.now.graph in
    let e = c.entry-item.result in
    let l : c.loop-entry.entry-index < length g.edges = rw c.edges-entry-items.ensures at c.loop-entry-test.true in
    let is : e ≡ get_or g.edges c.loop-entry.entry-index e = rw c.edges-entry-items.ensures at c.entry-item.is in
    c.loop-entry.invariant know t
    ∙ free_first c.args.used.now (summary_of know c.args.pred (plain c.args.node)) g.edges c.loop-entry.entry-index e None l is (sym c.is_used.ensures ∙ c.if-is_used.false)
    (sym (ap (λ (o : Option (Bor (List NodeId))). option_copied o) c.in-None.is) ∙ c.args_at.ensures know t)

pub returns-in-Some : goal.returns-in-Some
returns-in-Some c = λ know t.
    let g = c.args.state.now.graph in
    let e = c.entry-item.result in
    let l : c.loop-entry.entry-index < length g.edges = rw c.edges-entry-items.ensures at c.loop-entry-test.true in
    let is : e ≡ get_or g.edges c.loop-entry.entry-index e = rw c.edges-entry-items.ensures at c.entry-item.is in
    ap (λ (o : Option (EdgeId × List NodeId)). option_map (λ (found : EdgeId × List NodeId). found.1) o)
    (free_some c.args.used.now (summary_of know c.args.pred (plain c.args.node)) g.edges g.next c.loop-entry.entry-index e c.in-Some.args.now c.is_bounded.ensures.bounded.ids l is
    (sym c.is_used.ensures ∙ c.if-is_used.false)
    (sym (ap (λ (o : Option (Bor (List NodeId))). option_copied o) c.in-Some.is) ∙ c.args_at.ensures know t) (c.loop-entry.invariant know t))

pub returns : goal.returns
returns c = λ know t.
    let g = c.args.state.now.graph in
    let l : length g.edges ≤ c.loop-entry.entry-index = rw c.edges-entry-items.ensures at c.loop-entry-test.false in
    ap (λ (o : Option (EdgeId × List NodeId)). option_map (λ (found : EdgeId × List NodeId). found.1) o)
    (free_none c.args.used.now (summary_of know c.args.pred (plain c.args.node)) g.edges g.next c.loop-entry.entry-index c.is_bounded.ensures.bounded.ids l (c.loop-entry.invariant know t))
