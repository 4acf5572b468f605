use Rattle.mc_c_parse.proofs.ParameterLemmas.{parameters_comma, parameters_close, parameters_stuck}
use Rattle.mc_c_parse.proofs.parameters.behind_parameter.Goals as goal

pub returns-in-Comma : goal.returns-in-Comma
returns-in-Comma c = λ aliases token of. parameters_comma aliases _ (rw c.in-Comma.is at of)

pub returns-in-CloseParen : goal.returns-in-CloseParen
returns-in-CloseParen c = λ aliases token of. parameters_close aliases _ (rw c.in-CloseParen.is at of)

pub returns-in_default : goal.returns-in_default
returns-in_default c = λ aliases token of. parameters_stuck aliases _ _ of c.in_default.not-Comma c.in_default.not-CloseParen
