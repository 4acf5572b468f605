use Rattle.mc_apply_fold.proofs.change.empty.EmptySegLogicRule.is_sound.Goals as goal

pub returns : goal.returns
returns c = λ know left defs access s next made tells lists gives.
    let r = c.args.self.now in
    (c.segments_are_closed.ensures.empty defs r.pred r.at r.args r.end r.end_args s next made.made.bounded ((c.segments_are_judged.ensures.empty know defs r.pred r.at r.args r.end r.end_args s tells next).0 gives)).0
