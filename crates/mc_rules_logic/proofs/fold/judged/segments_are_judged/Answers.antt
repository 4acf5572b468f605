use Rattle.mc_rules_logic.proofs.FoldLemmas.Judging.{close_judged, join_judged, make_judged, goal_judged}
use Rattle.mc_rules_logic.proofs.fold.judged.segments_are_judged.Goals as goal

pub returns : goal.returns
returns c = record { close = close_judged; join = join_judged; empty = make_judged; goal = goal_judged }
