use Rattle.mc_kernel.proofs.ExampleFlows.{loop_is_valid}
use Rattle.mc_kernel.proofs.LoopExample.{loop_is_certified}
use Rattle.mc_kernel.proofs.examples.loop_is_certified.Goals as goal

pub returns : goal.returns
returns c = record { valid = loop_is_valid c.examples_fit.ensures; certificate = loop_is_certified c.derived_is_true.ensures.not_false }
