use Rattle.mc_lower_spec.proofs.Scoped.{while_scoped, for_scoped}
use Rattle.mc_lower_spec.proofs.laws.small_programs_are_scoped.Goals as goal

pub returns-clause-while_loops : goal.returns-clause-while_loops
returns-clause-while_loops c = while_scoped

pub returns-clause-for_loops : goal.returns-clause-for_loops
returns-clause-for_loops c = for_scoped
