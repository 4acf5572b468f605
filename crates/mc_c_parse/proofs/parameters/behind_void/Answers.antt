use Rattle.mc_c_parse.proofs.ParameterLemmas.{void_close, void_stuck}
use Rattle.mc_c_parse.proofs.parameters.behind_void.Goals as goal

pub returns-in-CloseParen : goal.returns-in-CloseParen
returns-in-CloseParen c = λ aliases token of. void_close (rw c.in-CloseParen.is at of)

pub returns-in_default : goal.returns-in_default
returns-in_default c = λ aliases token of. void_stuck _ of c.in_default.not-CloseParen
