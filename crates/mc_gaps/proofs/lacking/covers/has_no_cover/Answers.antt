use Rattle.std.proofs.Common.{◌≡◌, map}
use Rattle.mc_state.specs.Terms.{plain}
use Rattle.mc_gaps.proofs.LackingLemmas.Uncovered.{is_uncovered}
use Rattle.mc_gaps.proofs.lacking.covers.has_no_cover.Goals as goal

pub returns : goal.returns
returns c =
    let s = c.args.s.now in
    let told = c.is_told.ensures in
    let are : c.as_slice.result.now ≡ map plain c.args.args.now = cc (c.as_slice.ensures.value, c.in_ok-terms.ensures) in
    is_uncovered c.none_is_missed.ensures.cover told.0 c.args.defs.now s c.args.pred c.args.at c.args.args.now c.plain.result c.as_slice.result.now s.graph.next _ _ c.in_ok-found.found c.is_none.result
    c.as_slice-defs.ensures.fit told.1 c.is_bounded.ensures.bounded.ids c.plain.ensures are (c.in_ok-found.ensures.first told.0 told.1) c.is_none.ensures
