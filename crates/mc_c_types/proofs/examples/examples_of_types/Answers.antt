use Rattle.std.proofs.Common.{refl}
use Rattle.mc_c_types.proofs.Wells.{plain_first, no_calls}
use Rattle.mc_c_types.proofs.examples.examples_of_types.Goals as goal

pub returns-clause-added : goal.returns-clause-added
returns-clause-added c = plain_first _ _ _ refl (no_calls _ refl)

pub returns-clause-cast : goal.returns-clause-cast
returns-clause-cast c = plain_first _ _ _ refl (no_calls _ refl)

pub returns-clause-size : goal.returns-clause-size
returns-clause-size c = plain_first _ _ _ refl (no_calls _ refl)
