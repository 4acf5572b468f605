use Rattle.mc_apply_fold.proofs.fold.rules.FoldSegRuleLogicRule.is_sound.Goals as goal

pub returns : goal.returns
returns c = λ know left defs access s next made tells lists gives.
    let r = c.args.self.now.0 in
    (c.folding_is_sound.ensures.seg defs r s next made.made.bounded ((c.folding_is_judged.ensures.seg know defs r s made.made.bounded tells next).0 gives)).0
