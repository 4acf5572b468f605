use Rattle.mc_gaps.proofs.UnmetLemmas.Told as proof
use Rattle.mc_gaps.proofs.unmet.laws.gaps_are_told.Goals as goal

pub returns : goal.returns
returns c = proof.gaps_are_told c.back_is_told.ensures
