use Rattle.mc_cover.proofs.SearchLemmas.Asked.{settled}
use Rattle.mc_cover.proofs.search.search.SearchProblem.marks.Goals as goal

pub returns : goal.returns
returns c =
    let own = c.args.self.now.told in
    c.in_ok-all.ensures own.0 (settled c.args.self.now.state.now c.is_told.ensures own.0 own.1)
