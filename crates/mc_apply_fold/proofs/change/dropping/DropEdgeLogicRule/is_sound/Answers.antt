use Rattle.mc_apply_fold.proofs.change.dropping.DropEdgeLogicRule.is_sound.Goals as goal

pub returns : goal.returns
returns c = λ know left defs access s next made tells lists gives.
    let edge = c.args.self.now.edge in
    (c.naming_is_sound.ensures.drop_edge defs edge s next made.made.bounded ((c.naming_is_judged.ensures.drop_edge know edge s made.made.bounded tells next).0 gives)).0
