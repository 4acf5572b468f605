use Rattle.mc_cover.specs.Search.Setting.{setting}
use Rattle.mc_cover.proofs.SearchLemmas.Pushed.{by_call}
use Rattle.mc_cover.proofs.search.marks.push_by_call.Goals as goal

pub returns : goal.returns
returns c = λ know t.
    by_call (setting know c.args.defs.now c.args.state.now c.args.used.now) c.args.goal.now c.args.place c.args.call c.args.block c.in-Some.def.now c.in-Some-rule_of.rule.now c.args.cells.now.items c.push_call.new.cells.items c.args.rest c.in_ok-top.top
    c.in-Some.ensures c.in-Some-rule_of.ensures c.if-not-has_stop.ensures (c.in_ok-top.ensures know c.args.defs.now t)
