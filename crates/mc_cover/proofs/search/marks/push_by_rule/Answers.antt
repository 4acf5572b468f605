use Rattle.mc_cover.specs.Search.Setting.{setting}
use Rattle.mc_cover.proofs.SearchLemmas.Pushed.{by_rule}
use Rattle.mc_cover.proofs.search.marks.push_by_rule.Goals as goal

pub returns : goal.returns
returns c = λ know t.
    by_rule (setting know c.args.defs.now c.args.state.now c.args.used.now) c.args.goal.now c.args.place c.args.block c.in-Some.def.now c.in-Some-rule_of.rule.now c.args.cells.now.items c.push_rule.new.cells.items c.args.rest c.in_ok-top.top
    c.in-Some.ensures c.in-Some-rule_of.ensures c.if-has_stop.ensures (c.in_ok-top.ensures know c.args.defs.now t)
