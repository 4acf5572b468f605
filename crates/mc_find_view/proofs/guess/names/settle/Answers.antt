use Rattle.std.proofs.Common.{◌<◌, length, arith}
use Rattle.mc_state.specs.Guess.{by_passes}
use Rattle.mc_find_view.proofs.GuessLemmas.Given.{pass_next}
use Rattle.mc_find_view.proofs.guess.names.settle.Goals as goal

pub loop-pass-preserved : goal.loop-pass-preserved
loop-pass-preserved c =
    let names = c.args.names.now.items in
    let l : c.loop-pass._pass < length names = omega arith in
    pass_next (length names) c.loop-pass._pass (by_passes (length names) names c.args.atoms.now) c.loop-pass.names.items c.settle_once.new.names.items c.args.atoms.now
    l c.loop-pass.invariant c.settle_once.ensures
