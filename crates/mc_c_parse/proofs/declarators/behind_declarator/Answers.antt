use Rattle.mc_c_parse.proofs.DeclaratorLemmas.{declarators_comma, declarators_semicolon, declarators_stuck}
use Rattle.mc_c_parse.proofs.declarators.behind_declarator.Goals as goal

pub returns-in-Comma : goal.returns-in-Comma
returns-in-Comma c = λ token of. declarators_comma (rw c.in-Comma.is at of)

pub returns-in-Semicolon : goal.returns-in-Semicolon
returns-in-Semicolon c = λ token of. declarators_semicolon (rw c.in-Semicolon.is at of)

pub returns-in_default : goal.returns-in_default
returns-in_default c = λ token of. declarators_stuck _ _ of c.in_default.not-Comma c.in_default.not-Semicolon
