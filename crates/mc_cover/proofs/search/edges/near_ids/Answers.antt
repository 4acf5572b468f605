use Rattle.std.proofs.Common.{◌≡◌, ◌<◌, ◌≤◌, ◌++◌, [], ◌∷◌, length, get_or, ap, sym, ◌∙◌, arith}
use Rattle.std.specs.List.{filter}
use Rattle.mc_cover.specs.Marks.{ids_of}
use Rattle.mc_cover.specs.Near.{near}
use Rattle.mc_cover.specs.Search.Setting.{is_unused}
use Rattle.mc_cover.proofs.SearchLemmas.Left.{near_more, near_end}
use Rattle.mc_cover.proofs.search.edges.near_ids.Goals as goal

pub loop-e-preserved : goal.loop-e-preserved
loop-e-preserved c = λ know t.
    let es = c.args.state.now.graph.edges in
    let e = c.e-item.result in
    let l : c.loop-e.e-index < length es = rw c.edges-e-items.ensures at c.loop-e-test.true in
    let is : e ≡ get_or es c.loop-e.e-index e = rw c.edges-e-items.ensures at c.e-item.is in
    c.in_ok-push_near.ensures know t
    ∙ (ap (λ x. x ++ ids_of (near know c.args.at.now (filter (is_unused c.args.used.now) (e ∷ [])))) (c.loop-e.invariant know t)
    ∙ sym (near_more know c.args.at.now c.args.used.now es c.loop-e.e-index e l is))

pub returns : goal.returns
returns c = λ know t.
    let g = c.args.state.now.graph in
    let l : length g.edges ≤ c.loop-e.e-index = rw c.edges-e-items.ensures at c.loop-e-test.false in
    c.loop-e.invariant know t ∙ near_end know c.args.at.now c.args.used.now g.edges g.next c.loop-e.e-index c.is_bounded.ensures.bounded.ids l
