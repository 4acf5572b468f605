use Rattle.std.proofs.Common.{◌∙◌}
use Rattle.mc_replay.proofs.FoldLemmas.{if_ok, same_standing}
use Rattle.mc_replay.proofs.folds.standing.Goals as goal

pub returns : goal.returns
returns c =
    let h = c.args.half.now in
    if_ok c.standing_args.result
    (λ nodes is w same t.
    is (w.know h.state) (t.knows h.state t.made)
    ∙ same_standing w h c.args.pred c.args.at c.args.defs.now c.as_slice.result.now same c.as_slice.ensures.value)
    c.standing_args.ensures
