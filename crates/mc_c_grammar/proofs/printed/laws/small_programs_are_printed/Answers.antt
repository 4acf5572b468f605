use Rattle.std.proofs.Common.{refl}
use Rattle.mc_c_grammar.specs.Spelling.Words.{text_of}
use Rattle.mc_c_grammar.proofs.printed.laws.small_programs_are_printed.Goals as goal

pub returns-clause-text : goal.returns-clause-text
unfolding text_of
returns-clause-text c = refl
