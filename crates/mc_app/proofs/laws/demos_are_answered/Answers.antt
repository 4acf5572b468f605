use Rattle.mc_app.proofs.Fronts.{demos_answered}
use Rattle.mc_app.proofs.laws.demos_are_answered.Goals as goal

pub returns : goal.returns
returns c = demos_answered
