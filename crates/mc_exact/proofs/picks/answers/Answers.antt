use Rattle.std.proofs.Common.{◌∷◌, ◌++◌, [], None, map, take, ap, ◌∙◌}
use Rattle.mc_exact.specs.Real.{answered}
use Rattle.mc_exact.proofs.Lists.{map_more}
use Rattle.mc_exact.proofs.picks.answers.Goals as goal

pub loop-pick-preserved : goal.loop-pick-preserved
loop-pick-preserved c = λ know t.
    c.in_ok-push.ensures.items
    ∙ ap (λ l. l ++ c.answer.result ∷ []) (c.loop-pick.invariant know t)
    ∙ ap (λ k. map (answered know) (take c.loop-pick.pick-index c.args.picks.now) ++ k ∷ []) (c.answer.ensures know t)
    ∙ map_more (answered know) c.args.picks.now c.loop-pick.pick-index None c.loop-pick-test.true
