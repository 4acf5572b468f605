use Rattle.mc_rules_logic.proofs.BackLemmas.Ends.{seg_ends}
use Rattle.mc_rules_logic.proofs.back.laws.segments_end_with_bodies.Goals as goal

pub returns : goal.returns
returns c = let p = c.parts_regroup.ensures in seg_ends p.commutes p.left p.right p.adds_empty
