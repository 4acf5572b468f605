use Rattle.mc_kernel.proofs.ExampleFlows.{list_is_valid}
use Rattle.mc_kernel.proofs.ListExample.{list_is_certified}
use Rattle.mc_kernel.proofs.examples.list_is_certified.Goals as goal

pub returns : goal.returns
returns c = record { valid = list_is_valid c.examples_fit.ensures; certificate = list_is_certified c.derived_is_true.ensures.not_false }
