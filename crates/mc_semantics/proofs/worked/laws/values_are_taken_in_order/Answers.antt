use Rattle.mc_semantics.proofs.WorkedLemmas.Orders.{storing_undefined_faults, storing_behind_faults, adding_undefined_faults, assuming_undefined_faults, asserting_undefined_faults}
use Rattle.mc_semantics.proofs.worked.laws.values_are_taken_in_order.Goals as goal

pub returns-clause-value_first : goal.returns-clause-value_first
returns-clause-value_first c = storing_undefined_faults

pub returns-clause-pointer_first : goal.returns-clause-pointer_first
returns-clause-pointer_first c = storing_behind_faults

pub returns-clause-field_first : goal.returns-clause-field_first
returns-clause-field_first c = adding_undefined_faults

pub returns-clause-argument_first : goal.returns-clause-argument_first
returns-clause-argument_first c = assuming_undefined_faults

pub returns-clause-asserted_first : goal.returns-clause-asserted_first
returns-clause-asserted_first c = asserting_undefined_faults
