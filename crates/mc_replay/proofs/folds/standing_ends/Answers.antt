use Rattle.std.proofs.Common.{◌≡◌, ◌∙◌, ap, List, map}
use Rattle.mc_base.specs.declared.ids.NodeId.{NodeId}
use Rattle.mc_state.specs.Terms.{plain}
use Rattle.mc_joins.specs.Joinings.{Half, half}
use Rattle.mc_joins.specs.Parts.{standing_args}
use Rattle.mc_replay.specs.Joined.{seen}
use Rattle.mc_replay.proofs.FoldLemmas.{if_ok, tells_same}
use Rattle.mc_replay.proofs.folds.standing_ends.Goals as goal

pub returns : goal.returns
returns c =
    let j = seen c.args.join.now in
    let s = c.half.result.now.state in
    let state : s ≡ (half j c.args.side).state = ap (λ (z : Half). z.state) c.half.ensures.is in
    if_ok c.plain_all.result
    (λ terms is w same t.
    is
    ∙ ap (λ (ns : List NodeId). map plain ns)
    (c.as_slice.ensures.value
    ∙ (c.in_ok-nodes.ensures w same (tells_same w s (half j c.args.side).state state t)
    ∙ ap (λ (z : Half). standing_args w z c.args.pred c.args.end) c.half.ensures.is)))
    c.plain_all.ensures
