use Rattle.mc_c_check.proofs.Ranking.{typed_ranks}
use Rattle.mc_c_check.proofs.laws.calls_have_ranks.Goals as goal

pub returns : goal.returns
returns c = λ unit entry typed. typed_ranks unit entry typed
