use Rattle.mc_cover.proofs.SearchLemmas.Pushed.{pushes_to}
use Rattle.mc_cover.proofs.search.pushing.push_goals_to.Goals as goal

pub returns : goal.returns
returns c =
    pushes_to c.args.names.now c.args.stop.now c.args.place c.args.calls.now c.calls_before-first.result.now c.calls_behind-last.result.now c.index-calls-place.result c.in_ok-own.own c.in_ok-copied_stop.field-0 _ _ _ _ c.args.rest c.in_ok-behind.behind c.in_ok-here.here c.in_ok-top.top
    c.requires.inside c.index-calls-place.is c.calls_before-first.ensures c.calls_behind-last.ensures c.in_ok-own.ensures c.in_ok-copied_stop.ensures c.in_ok-behind.ensures c.in_ok-here.ensures c.in_ok-top.ensures
