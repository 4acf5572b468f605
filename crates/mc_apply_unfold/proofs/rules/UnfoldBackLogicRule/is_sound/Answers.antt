use Rattle.mc_apply_unfold.proofs.rules.UnfoldBackLogicRule.is_sound.Goals as goal

pub returns : goal.returns
returns c = λ know left defs access s next made tells lists gives.
    let edge = c.args.self.now.edge in
    (c.back_is_sound.ensures defs access edge s next made.made.bounded ((c.back_is_judged.ensures know defs access edge s tells next).0 gives)).0
