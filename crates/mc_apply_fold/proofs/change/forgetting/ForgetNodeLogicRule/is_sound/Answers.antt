use Rattle.mc_apply_fold.proofs.change.forgetting.ForgetNodeLogicRule.is_sound.Goals as goal

pub returns : goal.returns
returns c = λ know left defs access s next made tells lists gives.
    let node = c.args.self.now.node in
    (c.naming_is_sound.ensures.forget defs node s next made.made.bounded ((c.naming_is_judged.ensures.forget know (left node) node s tells (lists node) next).0 gives)).0
