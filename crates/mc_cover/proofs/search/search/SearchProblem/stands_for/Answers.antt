use Rattle.mc_cover.proofs.Alike.{marks_stand}
use Rattle.mc_cover.proofs.SearchLemmas.Asked.{settled}
use Rattle.mc_cover.proofs.SearchLemmas.Left.{others_ascend}
use Rattle.mc_cover.specs.Search.Setting.{setting}
use Rattle.mc_cover.proofs.search.search.SearchProblem.stands_for.Goals as goal

pub returns : goal.returns
returns c = λ yes.
    let own = c.args.self.now.told in
    let s = c.args.self.now.state.now in
    let tells = settled s c.is_told.ensures own.0 own.1 in
    marks_stand (setting own.0 c.args.self.now.defs.now s c.args.self.now.used.now) s tells s.graph.next (others_ascend s.graph.edges s.graph.next c.args.self.now.used.now c.is_bounded.ensures.bounded.ids) c.args.one c.args.other (c.marks_alike.ensures yes own.0 tells)
