use Rattle.mc_apply_unfold.proofs.rules.UnfoldIndLogicRule.is_sound.Goals as goal

pub returns : goal.returns
returns c = λ know left defs access s next made tells lists gives.
    let edge = c.args.self.now.edge in
    (c.unfolding_is_sound.ensures.ind defs access edge s next made.made.bounded ((c.unfolding_is_judged.ensures.ind know defs access edge s made.made.fits_defs tells next).0 gives)).0
