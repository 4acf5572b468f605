use Rattle.mc_apply_fold.proofs.change.spare.SpareNodeLogicRule.is_sound.Goals as goal

pub returns : goal.returns
returns c = λ know left defs access s next made tells lists gives.
    let r = c.args.self.now in
    (c.naming_is_sound.ensures.spare defs r.node r.add r.kind s next made.made.bounded ((c.naming_is_judged.ensures.spare know r.node r.add r.kind s tells next).0 gives)).0
