use Rattle.mc_c_parse.proofs.ParameterLemmas.{parameters_none, parameters_void, parameters_first}
use Rattle.mc_c_parse.proofs.Threads.{if_ok, same_step}
use Rattle.mc_c_parse.proofs.parameters.first_parameter.Goals as goal

pub returns-in-CloseParen : goal.returns-in-CloseParen
returns-in-CloseParen c = λ aliases known. parameters_none aliases (rw c.in-CloseParen.is at c.requires)

pub returns-in-Void : goal.returns-in-Void
returns-in-Void c = λ aliases known. parameters_void aliases (rw c.in-Void.is at c.requires)

pub returns-in_default : goal.returns-in_default
returns-in_default c = if_ok c.within_parameter.result (λ step says aliases known. same_step _ _ (parameters_first aliases _ c.requires c.in_default.not-CloseParen c.in_default.not-Void) step (rw c.new.ensures.items at (says aliases known))) c.within_parameter.ensures
