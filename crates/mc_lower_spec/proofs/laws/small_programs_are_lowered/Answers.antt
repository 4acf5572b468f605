use Rattle.mc_lower_spec.proofs.Examples.{values_made, fields_made, conditions_made, while_made, do_made, for_made, commands_made, calls_made, returns_made, run_made}
use Rattle.mc_lower_spec.proofs.Whole.{whole_lowering}
use Rattle.mc_lower_spec.proofs.laws.small_programs_are_lowered.Goals as goal

pub returns-clause-values : goal.returns-clause-values
returns-clause-values c = values_made

pub returns-clause-fields : goal.returns-clause-fields
returns-clause-fields c = fields_made

pub returns-clause-conditions : goal.returns-clause-conditions
returns-clause-conditions c = conditions_made

pub returns-clause-while_loops : goal.returns-clause-while_loops
returns-clause-while_loops c = while_made

pub returns-clause-do_loops : goal.returns-clause-do_loops
returns-clause-do_loops c = do_made

pub returns-clause-for_loops : goal.returns-clause-for_loops
returns-clause-for_loops c = for_made

pub returns-clause-commands : goal.returns-clause-commands
returns-clause-commands c = commands_made

pub returns-clause-calls : goal.returns-clause-calls
returns-clause-calls c = calls_made

pub returns-clause-returns : goal.returns-clause-returns
returns-clause-returns c = returns_made

pub returns-clause-without_result : goal.returns-clause-without_result
returns-clause-without_result c = run_made

pub returns-clause-whole : goal.returns-clause-whole
returns-clause-whole c = whole_lowering
