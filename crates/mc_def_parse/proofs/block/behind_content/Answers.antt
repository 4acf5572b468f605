use Rattle.std.proofs.Common.{◌∙◌, sym}
use Rattle.mc_def_parse.proofs.BlockLemmas.{contents_comma, contents_close, contents_stuck}
use Rattle.mc_def_parse.proofs.block.behind_content.Goals as goal

pub returns-in-Comma : goal.returns-in-Comma
returns-in-Comma c = contents_comma _ _ (sym c.requires ∙ c.in-Comma.is)

pub returns-in-CloseBrace : goal.returns-in-CloseBrace
returns-in-CloseBrace c = contents_close _ _ (sym c.requires ∙ c.in-CloseBrace.is)

pub returns-in_default : goal.returns-in_default
returns-in_default c = contents_stuck _ _ (λ e. c.in_default.not-Comma (c.requires ∙ e)) (λ e. c.in_default.not-CloseBrace (c.requires ∙ e))
