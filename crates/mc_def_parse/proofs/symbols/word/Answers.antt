use Rattle.std.proofs.Common.{arith}
use Rattle.std.proofs.lemmas.Grind.{common_steps}
use Rattle.mc_def_parse.specs.Symbols.{word_symbol}
use Rattle.mc_def_parse.proofs.symbols.word.Goals as goal

pub returns-then-not-is_reserved : goal.returns-then-not-is_reserved
unfolding word_symbol
returns-then-not-is_reserved c = grind (arith, common_steps)

pub returns-then-eq : goal.returns-then-eq
unfolding word_symbol
returns-then-eq c = grind (arith, common_steps)

pub returns-else-eq : goal.returns-else-eq
unfolding word_symbol
returns-else-eq c = grind (arith, common_steps)
