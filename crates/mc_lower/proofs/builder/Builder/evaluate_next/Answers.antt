use Rattle.std.proofs.Common.{◌∷◌, sym, subst, ap, ◌∙◌}
use Rattle.mc_base.specs.declared.plain.Kind.TheVariants.{Int}
use Rattle.mc_lower_spec.specs.Values.{a_difference, Takes}
use Rattle.mc_lower.specs.declared.values.Work.{Work}
use Rattle.mc_lower.specs.Valued.{Finishes}
use Rattle.mc_lower.specs.Worlds.{stage_of}
use Rattle.mc_lower.proofs.builder.Builder.evaluate_next.Goals as goal

pub returns-in_ok-enter-in-Whole-clause-leads : goal.returns-in_ok-enter-in-Whole-clause-leads
returns-in_ok-enter-in-Whole-clause-leads c = λ w o ts u agrees rest.
    let e = c.in_ok-enter-in-Whole.ensures.leads w o ts u agrees rest in
    (e.0, subst (λ t. Finishes w.graph (w.out c.args.site.occurrence) c.args.site.place (t ∷ c.args.work.now) c.args.made.now c.args.temporaries.now.items (stage_of w c.args.self.now) o ts u) (sym c.in-Whole.is) e.1)

pub returns-in_ok-make-in-Minus-clause-leads : goal.returns-in_ok-make-in-Minus-clause-leads
returns-in_ok-make-in-Minus-clause-leads c = λ w o ts u agrees rest.
    let made = c.in_ok-make-in-Minus.ensures.leads w agrees in
    let p = c.last_made-operand.result in
    let ss = c.args.temporaries.now.items in
    let s = stage_of w c.args.self.now in
    let us = c.make.new.temporaries.items in
    let m = stage_of w c.make.new.self in
    let taken = subst (λ z. Takes w.graph c.args.site.place Int (a_difference z p) ss s made.1.variable us m) c.nothing.ensures made.1.taken in
    let f : Finishes w.graph (w.out c.args.site.occurrence) c.args.site.place (Work.Minus ∷ c.args.work.now) (p ∷ c.last_made-operand.new.made) ss s o ts u =
    (made.1.variable, us, m, taken, subst (λ l. Finishes w.graph (w.out c.args.site.occurrence) c.args.site.place c.args.work.now l us m o ts u) made.1.kept rest) in (
      made.0,
      subst (λ t. Finishes w.graph (w.out c.args.site.occurrence) c.args.site.place (t ∷ c.args.work.now) c.args.made.now ss s o ts u) (sym c.in-Minus.is)
          (subst (λ l. Finishes w.graph (w.out c.args.site.occurrence) c.args.site.place (Work.Minus ∷ c.args.work.now) l ss s o ts u) (sym c.last_made-operand.ensures) f),
    )

pub returns-in_ok-make-in-Join-clause-leads : goal.returns-in_ok-make-in-Join-clause-leads
returns-in_ok-make-in-Join-clause-leads c = λ w o ts u agrees rest.
    let made = c.in_ok-make-in-Join.ensures.leads w agrees in
    let how = c.in-Join.how in
    let q = c.last_made-right.result in
    let p = c.last_made-left.result in
    let ss = c.args.temporaries.now.items in
    let s = stage_of w c.args.self.now in
    let us = c.make-in-Join.new.temporaries.items in
    let m = stage_of w c.make-in-Join.new.self in
    let taken = subst (λ op. Takes w.graph c.args.site.place Int op ss s made.1.variable us m) c.of.ensures made.1.taken in
    let f : Finishes w.graph (w.out c.args.site.occurrence) c.args.site.place (Work.Join how ∷ c.args.work.now) (q ∷ p ∷ c.last_made-left.new.made) ss s o ts u =
    (made.1.variable, us, m, taken, subst (λ l. Finishes w.graph (w.out c.args.site.occurrence) c.args.site.place c.args.work.now l us m o ts u) made.1.kept rest) in (
      made.0,
      subst (λ t. Finishes w.graph (w.out c.args.site.occurrence) c.args.site.place (t ∷ c.args.work.now) c.args.made.now ss s o ts u) (sym c.in-Join.is)
          (subst (λ l. Finishes w.graph (w.out c.args.site.occurrence) c.args.site.place (Work.Join how ∷ c.args.work.now) l ss s o ts u)
          (sym (c.last_made-right.ensures ∙ ap (λ l. q ∷ l) c.last_made-left.ensures)) f),
    )
