use Rattle.mc_cover.proofs.SearchLemmas.Listed.{rules_more}
use Rattle.mc_cover.proofs.search.listing.push_rules.Goals as goal

pub loop-place-preserved : goal.loop-place-preserved
loop-place-preserved c =
    rules_more _ c.loop-place.all.items c.args.all.now.items c.args.ids.now c.args.rules.now c.loop-place.place c.index-rules-place.result c.loop-place-test.true c.index-rules-place.is c.in_ok-push_rule.ensures c.loop-place.invariant
