use Rattle.mc_c_grammar.proofs.SpellingLemmas.UniqueUnits.{one_unit}
use Rattle.mc_c_grammar.proofs.spelling.laws.trees_are_unique.Goals as goal

pub returns : goal.returns
returns c = λ tokens one other r s. one_unit r s
