use Rattle.std.proofs.Common.{◌++◌, [], ◌∷◌, ap, ◌∙◌}
use Rattle.mc_cover.specs.declared.goals.Mark.TheVariants.{ByCall}
use Rattle.mc_cover.proofs.SearchLemmas.Listed.{calls_more}
use Rattle.mc_cover.proofs.search.listing.push_with.Goals as goal

pub loop-call-preserved : goal.loop-call-preserved
loop-call-preserved c =
    c.in_ok-push-2.ensures.items
    ∙ (ap (λ l. l ++ ByCall c.args.place c.args.block c.loop-call.call ∷ []) c.loop-call.invariant
    ∙ calls_more c.args.all.now.items c.args.place c.args.block c.loop-call.call)
