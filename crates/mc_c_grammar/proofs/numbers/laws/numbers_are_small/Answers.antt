use Rattle.mc_c_grammar.proofs.NumbersLemmas.SmallUnits.{unit_small}
use Rattle.mc_c_grammar.proofs.numbers.laws.numbers_are_small.Goals as goal

pub returns : goal.returns
returns c = λ unit tokens spelled. unit_small spelled
