use Rattle.std.proofs.Common.{◌≡◌, ◌+◌, ◌++◌, ◌∷◌, [], ap, sym, ◌∙◌, length}
use Rattle.std.proofs.lemmas.List.{length_push}
use Rattle.mc_lower.specs.declared.builder.Mark.{Mark}
use Rattle.mc_lower.proofs.Lined.{lined_put_last}
use Rattle.mc_lower.proofs.lines.Lines.put_last.Goals as goal

pub invariant_of-self-2 : goal.invariant_of-self-2
invariant_of-self-2 c =
    let old = c.args.self.now in
    let made = c.in_ok-add.ensures in
    let points : length c.add.new.self.points.items ≡ length old.points.items + 1 = ap length made.points ∙ length_push _ _ in
    let at : c.len-at.result ≡ length old.points.items = c.len-at.ensures ∙ old.points.ok.0 in
    let marks : c.push.new.self.items ≡ old.marks.items ++ Mark.At old.goal c.len-at.result ∷ [] = rw (made.marks, made.goal) at c.in_ok-push.ensures.items in
    record { lined = rw (made.outs, made.labels) (lined_put_last old.lined _ _ _ points at marks _ _ (sym made.waiting ∙ c.first_goal-self.ensures)) }
