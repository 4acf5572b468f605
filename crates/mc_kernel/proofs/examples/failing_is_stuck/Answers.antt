use Rattle.mc_kernel.proofs.FailingExample.{failing_is_valid, failing_is_stuck, failing_is_chain, failing_faults}
use Rattle.mc_kernel.proofs.examples.failing_is_stuck.Goals as goal

pub returns : goal.returns
returns c =
    let not_false = c.derived_is_true.ensures.not_false in
    record { valid = failing_is_valid c.examples_fit.ensures; pass = failing_is_stuck not_false; chain = failing_is_chain not_false; faults = failing_faults }
