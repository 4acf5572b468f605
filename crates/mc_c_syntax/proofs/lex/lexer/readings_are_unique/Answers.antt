use Rattle.mc_c_syntax.proofs.LexLemmas.Unique.{one_reading}
use Rattle.mc_c_syntax.proofs.lex.lexer.readings_are_unique.Goals as goal

pub returns : goal.returns
returns c = λ text one other r s. one_reading r s
