use Rattle.std.proofs.Common.{◌∙◌}
use Rattle.mc_def_parse.proofs.ItemLemmas.{sum_number, sum_stuck}
use Rattle.mc_def_parse.proofs.item.unsigned.Goals as goal

pub returns-in-Some : goal.returns-in-Some
returns-in-Some c = sum_number _ _ (rw c.in-Some.is at c.number.ensures)

pub returns-in-None : goal.returns-in-None
returns-in-None c = sum_stuck _ _ (λ e. c.requires.no_minus (c.requires.now ∙ e)) (λ e. c.requires.no_name (c.requires.now ∙ e)) (rw c.in-None.is at c.number.ensures)
