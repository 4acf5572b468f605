use Rattle.std.proofs.Common.{refl, lit<}
use Rattle.std.proofs.Common.{refl, sym, subst, ap, ◌∙◌, ◌∷◌}
use Rattle.mc_semantics.specs.Resolved.Views.{expression_of}
use Rattle.mc_lower.specs.declared.values.Work.{Work}
use Rattle.mc_lower.specs.Valued.{Finishes}
use Rattle.mc_lower.specs.Worlds.{stage_of}
use Rattle.mc_lower.proofs.Valuing.{evaluated}
use Rattle.mc_lower.proofs.builder.Builder.evaluate.Goals as goal

pub parts-init : goal.parts-init
parts-init c =
    record {
      leads =
          λ w o ts u agrees f.
          let whole = Work.Whole c.args.expression in
          (agrees, evaluated w.graph (w.out c.args.site.occurrence) c.args.site.place whole (expression_of c.args.expression.now) _ _ _ ts _ u o (c.in_ok-push.ensures ∙ ap (λ l. whole ∷ l) c.new-work.ensures) c.new-made.ensures f (λ x. x));
      same = refl;
      ready = rw (c.in_ok-push.ensures, c.new-work.ensures, c.new-made.ensures) (c.requires, lit< tt);
    }

pub parts-preserved : goal.parts-preserved
parts-preserved c =
    record {
      leads =
          λ w o ts u agrees f.
          let e = c.in_ok-evaluate_next-in-Some.ensures.leads w o ts u agrees f in
          c.parts.invariant.leads w o ts u e.0
          (subst (λ l. Finishes w.graph (w.out c.args.site.occurrence) c.args.site.place l c.parts.made c.parts.temporaries.items (stage_of w c.parts.self) o ts u) (sym c.in-Some.ensures) e.1);
      same = c.in_ok-evaluate_next-in-Some.ensures.same ∙ c.parts.invariant.same;
      ready = c.in_ok-evaluate_next-in-Some.ensures.ready;
    }

pub returns-in-None-clause-leads : goal.returns-in-None-clause-leads
returns-in-None-clause-leads c = λ w agrees.
    let o = c.last_made-operand.result in
    let ts = c.parts.temporaries.items in
    let s = stage_of w c.parts.self in
    c.parts.invariant.leads w o ts s agrees
    (subst (λ l. Finishes w.graph (w.out c.args.site.occurrence) c.args.site.place l c.parts.made ts s o ts s) (sym c.in-None.ensures.0) ((c.last_made-operand.new.made, c.last_made-operand.ensures), refl, refl))
