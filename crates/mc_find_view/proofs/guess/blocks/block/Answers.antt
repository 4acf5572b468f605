use Rattle.std.proofs.Common.{◌≡◌, ◌<◌, ◌≤◌, None, Option, List, Vec, Global, option_map, length, get_or, sym, ap, ◌∙◌}
use Rattle.mc_base.specs.declared.ids.NodeId.{NodeId}
use Rattle.mc_cover.specs.Goals.{whole_block}
use Rattle.mc_find_view.proofs.GuessLemmas.Firsts.{free_first, free_none, free_some}
use Rattle.mc_find_view.proofs.guess.blocks.block.Goals as goal

pub loop-entry-preserved : goal.loop-entry-preserved
loop-entry-preserved c = λ know t.
    let g = c.args.state.now.graph in
    let e = c.entry-item.result in
    let l : c.loop-entry.entry-index < length g.edges = rw c.edges-entry-items.ensures at c.loop-entry-test.true in
    let is : e ≡ get_or g.edges c.loop-entry.entry-index e = rw c.edges-entry-items.ensures at c.entry-item.is in
    let found : Option (Vec NodeId Global) → Option (List NodeId) = λ o. option_map (λ (nodes : Vec NodeId Global). nodes.items) o in
    c.loop-entry.invariant know t
    ∙ free_first c.args.used.now (whole_block know c.args.at.now c.args.shape) g.edges c.loop-entry.entry-index e None l is (sym c.is_used.ensures ∙ c.if-is_used.false)
    (sym (ap found c.in-None.is) ∙ c.in_ok-nodes.ensures know t)

pub returns-in-Some : goal.returns-in-Some
returns-in-Some c = λ know t.
    let g = c.args.state.now.graph in
    let e = c.entry-item.result in
    let l : c.loop-entry.entry-index < length g.edges = rw c.edges-entry-items.ensures at c.loop-entry-test.true in
    let is : e ≡ get_or g.edges c.loop-entry.entry-index e = rw c.edges-entry-items.ensures at c.entry-item.is in
    let found : Option (Vec NodeId Global) → Option (List NodeId) = λ o. option_map (λ (nodes : Vec NodeId Global). nodes.items) o in
    free_some c.args.used.now (whole_block know c.args.at.now c.args.shape) g.edges g.next c.loop-entry.entry-index e c.in-Some.nodes.items c.is_bounded.ensures.bounded.ids l is (sym c.is_used.ensures ∙ c.if-is_used.false)
    (sym (ap found c.in-Some.is) ∙ c.in_ok-nodes.ensures know t) (c.loop-entry.invariant know t)

pub returns : goal.returns
returns c = λ know t.
    let g = c.args.state.now.graph in
    let l : length g.edges ≤ c.loop-entry.entry-index = rw c.edges-entry-items.ensures at c.loop-entry-test.false in
    free_none c.args.used.now (whole_block know c.args.at.now c.args.shape) g.edges g.next c.loop-entry.entry-index c.is_bounded.ensures.bounded.ids l (c.loop-entry.invariant know t)
