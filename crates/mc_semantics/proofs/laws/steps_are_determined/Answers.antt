use Rattle.mc_semantics.proofs.Determined.{one_step}
use Rattle.mc_semantics.proofs.laws.steps_are_determined.Goals as goal

pub returns : goal.returns
returns c = λ program config choices one other r s. one_step program config choices one other r s
