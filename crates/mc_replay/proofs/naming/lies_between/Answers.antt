use Rattle.std.proofs.lemmas.Int.{to_z-of_z}
use Rattle.mc_cover.proofs.SearchLemmas.Asked.{told_within}
use Rattle.mc_replay.proofs.naming.lies_between.Goals as goal

pub returns : goal.returns
returns c = λ know tells.
    told_within c.args.state.now c.known-pure.result.now c.known-pure.ensures.follows c.known-pure.ensures.is_false know tells c.args.term.now c.as_asked-asked.result c.args.lo c.args.hi c.lies_in.result
    c.as_asked-asked.ensures.node c.as_asked-asked.ensures.add (simp (to_z-of_z, c.ranges.lo, c.ranges.hi) at c.lies_in.ensures)
