use Rattle.mc_flow.proofs.DefsLemmas.Heights.{sat_unfolds, sat_folds}
use Rattle.mc_flow.proofs.defs.laws.predicates_are_bodies.Goals as goal

pub returns : goal.returns
returns c = record { unfolds = sat_unfolds; folds = sat_folds }
