use Rattle.mc_semantics.proofs.WorkedLemmas.Orders.{asserting_of_undefined_faults}
use Rattle.mc_semantics.proofs.worked.laws.shapes_take_their_arguments.Goals as goal

pub returns : goal.returns
returns c = asserting_of_undefined_faults
