use Rattle.mc_pure.proofs.True.{derived_true, true_not_false}
use Rattle.mc_pure.proofs.derived_is_true.Goals as goal

pub returns : goal.returns
returns c = record { derived = derived_true; not_false = true_not_false }
