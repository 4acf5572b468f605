use Rattle.mc_lower.proofs.Lined.{lined_go_last}
use Rattle.mc_lower.proofs.lines.Lines.go_last.Goals as goal

pub invariant_of-self-2 : goal.invariant_of-self-2
invariant_of-self-2 c = record { lined = lined_go_last c.args.self.now.lined c.args.label _ c.in_ok-push.ensures.items _ _ c.first_goal-self.ensures }
