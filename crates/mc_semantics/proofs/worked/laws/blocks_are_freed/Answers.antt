use Rattle.mc_semantics.proofs.WorkedLemmas.Memory.{reading_freed_faults, freeing_twice_faults, freeing_null_ends}
use Rattle.mc_semantics.proofs.worked.laws.blocks_are_freed.Goals as goal

pub returns-clause-reading : goal.returns-clause-reading
returns-clause-reading c = reading_freed_faults

pub returns-clause-twice : goal.returns-clause-twice
returns-clause-twice c = freeing_twice_faults

pub returns-clause-null : goal.returns-clause-null
returns-clause-null c = freeing_null_ends
