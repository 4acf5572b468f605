use Rattle.mc_c_grammar.proofs.PrintedLemmas.Printed.{apart}
use Rattle.mc_c_grammar.proofs.printed.laws.printing_tells_programs_apart.Goals as goal

pub returns : goal.returns
returns c = λ text another unit other was that. apart c.readings_are_unique.ensures c.trees_are_unique.ensures c.printed_words_are_read.ensures was that
