use Rattle.mc_kernel.proofs.JumpingAtOnce.{uncut_is_refused}
use Rattle.mc_kernel.proofs.wrong_jumps.loop_heads_are_cuts.Goals as goal

pub returns : goal.returns
returns c = uncut_is_refused
