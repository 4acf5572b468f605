use Rattle.std.proofs.Common.{rules, arith, ◌∙◌}
use Rattle.std.proofs.lemmas.Grind.{common_steps}
use Rattle.mc_def_parse.proofs.FileLemmas.{rules_rule, rules_stuck}
use Rattle.mc_def_parse.proofs.file.FileReader.next_rule.Goals as goal

pub returns-then-is_word : goal.returns-then-is_word
returns-then-is_word c = rules_rule _ _ _ (search rules)

pub returns-else-is_word : goal.returns-else-is_word
returns-else-is_word c = rules_stuck _ _ _ (λ e. c.requires.no_brace (c.requires.now ∙ e)) (λ w. grind (arith, common_steps))
