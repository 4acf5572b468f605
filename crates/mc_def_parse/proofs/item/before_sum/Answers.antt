use Rattle.std.proofs.Common.{◌∙◌, sym}
use Rattle.mc_def_parse.proofs.ItemLemmas.{sum_minus, sum_base}
use Rattle.mc_def_parse.proofs.item.before_sum.Goals as goal

pub returns-in-Minus : goal.returns-in-Minus
returns-in-Minus c = sum_minus _ _ (sym c.requires ∙ c.in-Minus.is)

pub returns-in-Name : goal.returns-in-Name
returns-in-Name c = sum_base _ _ (sym c.requires ∙ c.in-Name.is)
