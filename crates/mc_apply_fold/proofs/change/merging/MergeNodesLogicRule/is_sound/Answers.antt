use Rattle.mc_apply_fold.proofs.change.merging.MergeNodesLogicRule.is_sound.Goals as goal

pub returns : goal.returns
returns c = λ know left defs access s next made tells lists gives.
    let rule = c.args.self.now in
    (c.naming_is_sound.ensures.merge defs rule.keep rule.gone s next made.made.bounded ((c.naming_is_judged.ensures.merge know rule.keep rule.gone s tells next).0 gives)).0.0
