use Rattle.mc_semantics.proofs.WorkedLemmas.Shapes.{assuming_list_ends, no_list_faults}
use Rattle.mc_semantics.proofs.worked.laws.shapes_are_told.Goals as goal

pub returns-clause-assumed : goal.returns-clause-assumed
returns-clause-assumed c = assuming_list_ends c.example_premises.ensures.at_end

pub returns-clause-no_list : goal.returns-clause-no_list
returns-clause-no_list c = no_list_faults
