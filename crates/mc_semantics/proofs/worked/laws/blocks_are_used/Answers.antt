use Rattle.mc_semantics.proofs.WorkedLemmas.Memory.{keeping_ends, undefined_faults, null_faults}
use Rattle.mc_semantics.proofs.worked.laws.blocks_are_used.Goals as goal

pub returns-clause-keeping : goal.returns-clause-keeping
returns-clause-keeping c = keeping_ends

pub returns-clause-undefined : goal.returns-clause-undefined
returns-clause-undefined c = undefined_faults

pub returns-clause-null : goal.returns-clause-null
returns-clause-null c = null_faults
