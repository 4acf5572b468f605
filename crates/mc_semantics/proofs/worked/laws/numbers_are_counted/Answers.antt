use Rattle.mc_semantics.proofs.WorkedLemmas.Numbers.{counting_ends, wrapping_ends, computing_ends}
use Rattle.mc_semantics.proofs.worked.laws.numbers_are_counted.Goals as goal

pub returns-clause-counting : goal.returns-clause-counting
returns-clause-counting c = counting_ends

pub returns-clause-wrapping : goal.returns-clause-wrapping
returns-clause-wrapping c = wrapping_ends

pub returns-clause-computing : goal.returns-clause-computing
returns-clause-computing c = computing_ends
