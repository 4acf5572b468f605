use Rattle.std.proofs.Common.{◌∙◌, None}
use Rattle.mc_replay.proofs.FoldLemmas.{if_ok, same_guess}
use Rattle.mc_replay.proofs.folds.guessed.Goals as goal

pub returns : goal.returns
returns c =
    let h = c.args.half.now in
    if_ok c.guess.result
    (λ terms is w same t.
    is (w.know h.state) (t.knows h.state t.made)
    ∙ same_guess w h c.args.pred c.args.at None c.args.defs.now c.plain.result c.as_slice.result.now same c.plain.ensures c.as_slice.ensures.value)
    c.guess.ensures
