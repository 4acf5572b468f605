use Rattle.std.proofs.Common.{refl, sym, ◌∙◌}
use Rattle.mc_check_line.proofs.Answered.{fitted, unfitted}
use Rattle.mc_check_line.proofs.jumps.landed.Goals as goal

pub returns-in-None : goal.returns-in-None
returns-in-None c = λ judged told. fitted judged (sym c.in-None.is ∙ told)

pub returns-in-Some : goal.returns-in-Some
returns-in-Some c = λ judged told. (unfitted judged _ (sym c.in-Some.is ∙ told), refl)
