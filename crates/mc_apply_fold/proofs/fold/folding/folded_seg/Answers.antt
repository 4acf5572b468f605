use Rattle.std.proofs.Common.{subst, sym}
use Rattle.mc_state.specs.Fits.{AreNodes}
use Rattle.mc_apply_fold.proofs.fold.folding.folded_seg.Goals as goal

pub returns-in-Ok-seg-clause-there : goal.returns-in-Ok-seg-clause-there
returns-in-Ok-seg-clause-there c =
    let kinds = c.args.s.now.kinds in
    c.in-Ok-seg.ensures.there kinds (subst (AreNodes kinds) (sym c.as_slice.ensures) c.in-Ok.ensures.there)
