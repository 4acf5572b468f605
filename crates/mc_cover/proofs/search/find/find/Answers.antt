use Rattle.std.proofs.Common.{option_map}
use Rattle.mc_cover.proofs.SearchLemmas.Found.{first_found}
use Rattle.mc_cover.proofs.search.find.find.Goals as goal

pub returns : goal.returns
returns c =
    let r = c.search_in-search.result in
    let g = c.args.state.now.graph in
    first_found c.near_is_first.ensures c.args.state.now r.state.now c.args.defs.now r.defs.now c.args.used.now r.used.now c.args.goal g.next c.is_told.ensures r.told (option_map (λ log. log.items) c.in_ok-found.found)
    c.search_in-search.ensures.state c.search_in-search.ensures.defs c.search_in-search.ensures.used c.as_slice-defs.ensures.fit c.is_bounded.ensures.bounded.ids c.in_ok-found.ensures
