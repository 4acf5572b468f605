use Rattle.mc_cover.proofs.SearchLemmas.Asked.{settled}
use Rattle.mc_cover.proofs.SearchLemmas.Pushed.{pushed_goals}
use Rattle.mc_cover.proofs.search.search.SearchProblem.push_calls.Goals as goal

pub returns-clause-pushed : goal.returns-clause-pushed
returns-clause-pushed c =
    let own = c.args.self.now.told in
    pushed_goals _ _ c.args.cells.now.items _ c.args.rest c.in_ok-top.top (c.in_ok-top.ensures own.0 (settled c.args.self.now.state.now c.is_told.ensures own.0 own.1))
