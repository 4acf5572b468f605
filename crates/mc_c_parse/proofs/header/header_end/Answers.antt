use Rattle.mc_c_parse.proofs.HeaderLemmas.{header_close, header_stuck}
use Rattle.mc_c_parse.proofs.header.header_end.Goals as goal

pub returns-in-OpenParen : goal.returns-in-OpenParen
returns-in-OpenParen c = λ aliases token of. header_close _ _ (rw c.in-OpenParen.is at of)

pub returns-in_default : goal.returns-in_default
returns-in_default c = λ aliases token of. header_stuck _ _ _ of c.in_default.not-OpenParen
