use Rattle.std.proofs.Common.{◌∙◌, sym}
use Rattle.mc_def_parse.proofs.ItemLemmas.{bound_minus}
use Rattle.mc_def_parse.proofs.item.before_bound.Goals as goal

pub returns-in-Minus : goal.returns-in-Minus
returns-in-Minus c = bound_minus _ _ (sym c.requires ∙ c.in-Minus.is)
