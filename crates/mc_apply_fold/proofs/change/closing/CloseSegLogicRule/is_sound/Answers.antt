use Rattle.mc_apply_fold.proofs.change.closing.CloseSegLogicRule.is_sound.Goals as goal

pub returns : goal.returns
returns c = λ know left defs access s next made tells lists gives.
    let rule = c.args.self.now in
    (c.segments_are_closed.ensures.close defs rule.first rule.second s next made.made.bounded ((c.segments_are_judged.ensures.close know rule.first rule.second s made.made.bounded tells next).0 gives)).0
