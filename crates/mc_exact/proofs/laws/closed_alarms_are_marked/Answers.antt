use Rattle.mc_exact.proofs.Marks as proof
use Rattle.mc_exact.proofs.laws.closed_alarms_are_marked.Goals as goal

pub returns : goal.returns
returns c = proof.closed_alarms_are_marked
