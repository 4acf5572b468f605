use Rattle.std.proofs.Common.{◌∙◌, sym}
use Rattle.mc_def_parse.proofs.FileLemmas.{rules_close}
use Rattle.mc_def_parse.proofs.file.FileReader.behind_rule.Goals as goal

pub returns-in_ok-end_def-in-CloseBrace : goal.returns-in_ok-end_def-in-CloseBrace
returns-in_ok-end_def-in-CloseBrace c = rw (c.in_ok-end_def-in-CloseBrace.ensures.at, c.in_ok-end_def-in-CloseBrace.ensures.done) (rules_close _ _ _ (sym c.requires ∙ c.in-CloseBrace.is))
