use Rattle.std.proofs.Common.{◌≡◌, ◌+◌, ◌++◌, ◌∷◌, [], ap, ◌∙◌, length}
use Rattle.std.proofs.lemmas.List.{length_push}
use Rattle.mc_lower.specs.declared.builder.Mark.{Mark}
use Rattle.mc_lower.proofs.Lined.{lined_put}
use Rattle.mc_lower.proofs.lines.Lines.put.Goals as goal

pub invariant_of-self-2 : goal.invariant_of-self-2
invariant_of-self-2 c =
    let old = c.args.self.now in
    let made = c.in_ok-add.ensures in
    let points : length c.add.new.self.points.items ≡ length old.points.items + 1 = ap length made.points ∙ length_push _ _ in
    let at : c.len-at.result ≡ length old.points.items = c.len-at.ensures ∙ old.points.ok.0 in
    let marks : c.push.new.self.items ≡ old.marks.items ++ Mark.At old.goal c.len-at.result ∷ [] = rw (made.marks, made.goal) at c.in_ok-push.ensures.items in
    record {
      lined = rw (made.outs, made.waiting) (lined_put old.lined _ _ _ points at marks _ _ c.in_ok-labels.ensures (ap (λ l. l.0) c.next-next.ensures));
    }
