use Rattle.std.proofs.Common.{ap}
use Rattle.mc_lower.proofs.Lined.{lined_wait}
use Rattle.mc_lower.proofs.lines.Lines.wait.Goals as goal

pub invariant_of-self : goal.invariant_of-self
invariant_of-self c =
    record {
      lined = lined_wait c.args.self.now.lined _ c.in_ok-self.ensures c.next-next.result (ap (λ l. l.0) c.next-next.ensures) c.put_first.result _
          c.put_first.ensures.first c.put_first.ensures.none;
    }
