use Rattle.mc_cover.proofs.SearchLemmas.Listed.{blocks_more}
use Rattle.mc_cover.proofs.search.listing.push_rule.Goals as goal

pub loop-id-preserved : goal.loop-id-preserved
loop-id-preserved c =
    blocks_more _ c.loop-id.all.items c.args.all.now.items c.args.place c.args.rule.now c.args.ids.now c.loop-id.id-index _ c.loop-id-test.true c.in_ok-push_with.ensures c.loop-id.invariant
