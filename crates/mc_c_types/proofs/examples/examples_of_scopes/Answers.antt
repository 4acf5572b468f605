use Rattle.std.proofs.Common.{refl}
use Rattle.mc_c_types.proofs.Wells.{plain_first, no_calls}
use Rattle.mc_c_types.proofs.examples.examples_of_scopes.Goals as goal

pub returns-clause-hidden : goal.returns-clause-hidden
returns-clause-hidden c = plain_first _ _ _ refl (no_calls _ refl)

pub returns-clause-twice : goal.returns-clause-twice
returns-clause-twice c = plain_first _ _ _ refl (no_calls _ refl)

pub returns-clause-after_loop : goal.returns-clause-after_loop
returns-clause-after_loop c = plain_first _ _ _ refl (no_calls _ refl)
