use Rattle.mc_semantics.proofs.WorkedLemmas.Orders.{linking_ends, result_in_field_ends}
use Rattle.mc_semantics.proofs.worked.laws.blocks_are_linked.Goals as goal

pub returns-clause-linking : goal.returns-clause-linking
returns-clause-linking c = linking_ends

pub returns-clause-result : goal.returns-clause-result
returns-clause-result c = result_in_field_ends
