use Rattle.mc_semantics.proofs.WorkedLemmas.Memory.{empty_at_first_ends, not_empty_faults, empty_again_ends}
use Rattle.mc_semantics.proofs.worked.laws.heaps_are_empty.Goals as goal

pub returns-clause-first : goal.returns-clause-first
returns-clause-first c = empty_at_first_ends

pub returns-clause-not_empty : goal.returns-clause-not_empty
returns-clause-not_empty c = not_empty_faults

pub returns-clause-again : goal.returns-clause-again
returns-clause-again c = empty_again_ends
