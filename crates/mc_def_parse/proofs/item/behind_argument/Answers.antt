use Rattle.std.proofs.Common.{◌∙◌, sym}
use Rattle.mc_def_parse.proofs.ItemLemmas.{names_comma, names_close, names_stuck}
use Rattle.mc_def_parse.proofs.item.behind_argument.Goals as goal

pub returns-in-Comma : goal.returns-in-Comma
returns-in-Comma c = names_comma _ _ (sym c.requires ∙ c.in-Comma.is)

pub returns-in-Close : goal.returns-in-Close
returns-in-Close c = names_close _ _ (sym c.requires ∙ c.in-Close.is)

pub returns-in_default : goal.returns-in_default
returns-in_default c = names_stuck _ _ (λ e. c.in_default.not-Comma (c.requires ∙ e)) (λ e. c.in_default.not-Close (c.requires ∙ e))
