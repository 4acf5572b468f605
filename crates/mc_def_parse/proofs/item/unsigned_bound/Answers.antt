use Rattle.std.proofs.Common.{◌∙◌}
use Rattle.mc_def_parse.proofs.ItemLemmas.{bound_number, bound_stuck}
use Rattle.mc_def_parse.proofs.item.unsigned_bound.Goals as goal

pub returns-in-Some : goal.returns-in-Some
returns-in-Some c = bound_number _ _ (rw c.in-Some.is at c.number.ensures)

pub returns-in-None : goal.returns-in-None
returns-in-None c = bound_stuck _ _ (λ e. c.requires.no_minus (c.requires.now ∙ e)) (rw c.in-None.is at c.number.ensures)
