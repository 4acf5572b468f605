use Rattle.std.proofs.Common.{ap, ◌∙◌}
use Rattle.mc_lower.proofs.Lined.{lined_occur}
use Rattle.mc_lower.proofs.lines.Lines.occur.Goals as goal

pub invariant_of-self-2 : goal.invariant_of-self-2
invariant_of-self-2 c =
    let at = c.len-occurrence.ensures ∙ c.args.self.now.outs.ok.0 in
    record {
      lined = lined_occur c.args.self.now.lined _ c.in_ok-labels.ensures c.next-next.result (ap (λ l. l.0) c.next-next.ensures) _ c.in_ok-push.ensures.items
          c.put_first.result _ (rw at at c.put_first.ensures.first) c.put_first.ensures.none;
    }
