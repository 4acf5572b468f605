use Rattle.mc_semantics.proofs.Examples.{assigning_ends, undefined_faults, choosing_small, choosing_large, stopping_early_faults, assuming_stops, whiling_ends, doing_ends, turning_ends, calling_ends, reading_first_faults}
use Rattle.mc_semantics.proofs.laws.small_programs_run.Goals as goal

pub returns-clause-assigning : goal.returns-clause-assigning
returns-clause-assigning c = assigning_ends

pub returns-clause-undefined : goal.returns-clause-undefined
returns-clause-undefined c = undefined_faults

pub returns-clause-small : goal.returns-clause-small
returns-clause-small c = choosing_small

pub returns-clause-large : goal.returns-clause-large
returns-clause-large c = choosing_large

pub returns-clause-early : goal.returns-clause-early
returns-clause-early c = stopping_early_faults

pub returns-clause-assuming : goal.returns-clause-assuming
returns-clause-assuming c = assuming_stops

pub returns-clause-whiling : goal.returns-clause-whiling
returns-clause-whiling c = whiling_ends

pub returns-clause-doing : goal.returns-clause-doing
returns-clause-doing c = doing_ends

pub returns-clause-turning : goal.returns-clause-turning
returns-clause-turning c = turning_ends

pub returns-clause-calling : goal.returns-clause-calling
returns-clause-calling c = calling_ends

pub returns-clause-reading : goal.returns-clause-reading
returns-clause-reading c = reading_first_faults
