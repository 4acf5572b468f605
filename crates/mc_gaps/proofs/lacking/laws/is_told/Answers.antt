use Rattle.mc_cover.proofs.SearchLemmas.Asked.{is_tell}
use Rattle.mc_gaps.proofs.lacking.laws.is_told.Goals as goal

pub returns : goal.returns
returns c =
    let p = c.known-pure.result.now in
    let k = c.each_is_decided.ensures.decided p c.is_kept.ensures.rise c.is_kept.ensures.fit in
    (k.0, is_tell c.args.s.now p c.known-pure.ensures.follows c.known-pure.ensures.is_false k.0 k.1)
