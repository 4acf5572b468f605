use Rattle.mc_kernel.proofs.JumpingAtOnce.{failing_is_accepted}
use Rattle.mc_kernel.proofs.wrong_jumps.jumps_come_after_steps.Goals as goal

pub returns : goal.returns
returns c = failing_is_accepted c.derived_is_true.ensures.not_false
