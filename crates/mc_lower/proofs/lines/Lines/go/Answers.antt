use Rattle.std.proofs.Common.{ap}
use Rattle.mc_lower.proofs.Lined.{lined_go}
use Rattle.mc_lower.proofs.lines.Lines.go.Goals as goal

pub invariant_of-self-2 : goal.invariant_of-self-2
invariant_of-self-2 c =
    record { lined = lined_go c.args.self.now.lined c.args.label _ c.in_ok-push.ensures.items _ _ c.in_ok-labels.ensures (ap (λ l. l.0) c.next-next.ensures) }
