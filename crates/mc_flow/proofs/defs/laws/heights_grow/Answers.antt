use Rattle.mc_flow.proofs.DefsLemmas.Heights.{sat_is_monotone, seg_is_monotone}
use Rattle.mc_flow.proofs.defs.laws.heights_grow.Goals as goal

pub returns : goal.returns
returns c = record { predicates = sat_is_monotone; segments = seg_is_monotone }
