use Rattle.mc_cover.proofs.SearchLemmas.Asked.{told_equal}
use Rattle.mc_replay.proofs.naming.are_equal.Goals as goal

pub returns : goal.returns
returns c = λ know tells.
    told_equal c.args.state.now c.known-pure.result.now c.known-pure.ensures.follows c.known-pure.ensures.is_false know tells c.args.left.now c.args.right.now c.as_asked-first.result c.as_asked-second.result c.are_equal.result
    c.as_asked-first.ensures.node c.as_asked-first.ensures.add c.as_asked-second.ensures.node c.as_asked-second.ensures.add c.are_equal.ensures
