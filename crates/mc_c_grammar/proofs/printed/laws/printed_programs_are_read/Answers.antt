use Rattle.mc_c_grammar.proofs.PrintedLemmas.Printed.{read_again, read_only}
use Rattle.mc_c_grammar.proofs.printed.laws.printed_programs_are_read.Goals as goal

pub returns-clause-read : goal.returns-clause-read
returns-clause-read c = λ text unit was. read_again c.printed_words_are_read.ensures was

pub returns-clause-only : goal.returns-clause-only
returns-clause-only c = λ text unit other was again. read_only c.readings_are_unique.ensures c.trees_are_unique.ensures c.printed_words_are_read.ensures was again
