use Rattle.std.proofs.Common.{refl}
use Rattle.std.proofs.Common.{arith}
use Rattle.mc_c_types.proofs.Wells.{plain_first, entry_first, no_calls}
use Rattle.mc_c_types.proofs.examples.examples_of_entries.Goals as goal

pub returns-clause-nothing : goal.returns-clause-nothing
returns-clause-nothing c = entry_first _ _ refl (no_calls _ refl) (λ p. grind arith)

pub returns-clause-parameter : goal.returns-clause-parameter
returns-clause-parameter c = entry_first _ _ refl (no_calls _ refl) (λ p. grind arith)

pub returns-clause-others : goal.returns-clause-others
returns-clause-others c = plain_first _ _ _ refl (no_calls _ refl)
