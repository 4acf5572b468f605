use Rattle.std.proofs.Common.{rules, arith}
use Rattle.std.proofs.lemmas.Grind.{common_steps}
use Rattle.mc_def_parse.proofs.FileLemmas.{outside_def, outside_stuck}
use Rattle.mc_def_parse.proofs.file.FileReader.begin_def.Goals as goal

pub returns-then-is_word : goal.returns-then-is_word
returns-then-is_word c = outside_def _ (search rules)

pub returns-else-is_word : goal.returns-else-is_word
returns-else-is_word c = outside_stuck _ c.requires.no_end (λ w. grind (arith, common_steps))
