use Rattle.mc_follow.proofs.AlarmsLemmas.Covered.{at_covered, side_gone}
use Rattle.mc_follow.proofs.alarms.walk.Walk.step.Goals as goal

pub end_side-requires-clause-here : goal.end_side-requires-clause-here
end_side-requires-clause-here c = at_covered c.args.defs.now c.args.self.now.proof c.requires.covered c.in-EndSide.ensures

pub returns-in_ok-end_side-in-EndSide-clause-covered : goal.returns-in_ok-end_side-in-EndSide-clause-covered
returns-in_ok-end_side-in-EndSide-clause-covered c =
    side_gone c.args.defs.now c.args.self.now.proof c.end_side.new.self.proof c.in-EndSide.ensures c.in_ok-end_side-in-EndSide.ensures.ended c.requires.covered
