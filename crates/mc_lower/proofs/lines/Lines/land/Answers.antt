use Rattle.std.proofs.Common.{◌≡◌, ◌+◌, ◌++◌, ◌∷◌, [], ap, sym, ◌∙◌, length, inl, inr}
use Rattle.std.proofs.lemmas.Bool.{cases_Bool}
use Rattle.std.proofs.lemmas.List.{length_push}
use Rattle.std.specs.Prelude.{is_ok}
use Rattle.mc_lower.specs.declared.builder.Mark.{Mark}
use Rattle.mc_lower.specs.Lines.{label_of}
use Rattle.mc_lower.proofs.Lined.{lined_land}
use Rattle.mc_lower.proofs.lines.Lines.land.Goals as goal

pub invariant_of-self : goal.invariant_of-self
invariant_of-self c =
    let old = c.args.self.now in
    let took = c.take-awaited.ensures in
    let made = c.in_ok-add.ensures in
    let went = c.in_ok-go.ensures in
    let go = c.go.new.self in
    let label = c.label_of-label.result in
    let points : length go.points.items ≡ length old.points.items + 1 =
    ap (λ ps. length ps.items) went.points ∙ ap length made.points ∙ length_push _ _ ∙ ap (λ ps. length ps.items + 1) took.points in
    let at : c.len-at.result ≡ length old.points.items = c.len-at.ensures ∙ old.points.ok.0 in
    let marks : go.marks.items ≡ old.marks.items ++ Mark.Same old.goal label ∷ [] =
    rw (made.marks, made.goal, took.marks, took.goal) at went.marks in
    let waiting : old.waiting ≡ c.take-awaited.result ∷ go.waiting = took.waiting ∙ ap (λ w. c.take-awaited.result ∷ w) (sym (went.waiting ∙ made.waiting)) in
    let is_label : label ≡ label_of old.outs.items c.take-awaited.result = rw took.outs at c.label_of-label.ensures in
    let labels : go.labels ≡ old.labels + 1 = went.labels ∙ ap (λ n. n + 1) (made.labels ∙ took.labels) in
    let next : go.goal.0 ≡ old.labels = ap (λ l. l.0) went.goal ∙ made.labels ∙ took.labels in
    elim (cases_Bool (is_ok c.push.result)) [
      | inl ok ↦ record {
        lined = rw (went.outs, made.outs, took.outs) (lined_land old.lined label go.marks.items marks _ _ _ _ _ _ _ waiting is_label points at
            (rw ok at c.push.ensures.items) labels next);
      }
      | inr failed ↦ record { lined = rw (rw failed at c.push.ensures.items) go.lined }
    ]
