use Rattle.mc_apply_unfold.proofs.rules.UnfoldSegLogicRule.is_sound.Goals as goal

pub returns : goal.returns
returns c = λ know left defs access s next made tells lists gives.
    let edge = c.args.self.now.edge in
    (c.unfolding_is_sound.ensures.seg defs access edge s next made.made.bounded ((c.unfolding_is_judged.ensures.seg know defs access edge s made.made.fits_defs tells next).0 gives)).0
