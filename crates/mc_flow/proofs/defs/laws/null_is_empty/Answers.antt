use Rattle.mc_flow.proofs.DefsLemmas.Segments.{sat_of_null}
use Rattle.mc_flow.proofs.defs.laws.null_is_empty.Goals as goal

pub returns : goal.returns
returns c = sat_of_null
