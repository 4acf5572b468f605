use Rattle.mc_c_syntax.specs.Lex.Spots.{start}
use Rattle.mc_c_grammar.proofs.PrintedLemmas.Lexing.{words_are_read}
use Rattle.mc_c_grammar.proofs.printed.laws.printed_words_are_read.Goals as goal

pub returns : goal.returns
returns c = λ words printable. words_are_read printable start
