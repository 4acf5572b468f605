use Rattle.mc_lower.specs.Knowns.{known}
use Rattle.mc_lower.specs.Ready.{IsReady}
use Rattle.mc_lower.proofs.Having.{ready_at}
use Rattle.std.proofs.Common.{add-one, suc}
use Rattle.mc_lower.proofs.Agreeing.{one_more}
use Rattle.std.proofs.Common.{◌≡◌, ◌<◌, ◌+◌, ◌++◌, [], ◌∷◌, Some, map, drop, refl, sym, ap, subst, ◌∙◌, length, arith}
use Rattle.std.proofs.lemmas.List.{append-nil, append_assoc, drop_all}
use Rattle.std.proofs.lemmas.Option.{slice_get-get_or}
use Rattle.mc_semantics.specs.Resolved.Views.{expression_of}
use Rattle.mc_lower_spec.specs.Values.{EvaluatesAll, evaluates_none}
use Rattle.mc_lower.specs.Worlds.{stage_of}
use Rattle.mc_lower.proofs.Valuing.{all_evaluated}
use Rattle.mc_lower.proofs.builder.Builder.evaluate_all.Goals as goal

pub loop-at-init : goal.loop-at-init
loop-at-init c =
    record {
      leads =
          λ w os ws u agrees rest.
          (agrees, subst (λ l. EvaluatesAll w.graph (w.out c.args.site.occurrence) c.args.site.place (map expression_of c.args.expressions.now) c.args.temporaries.now.items (stage_of w c.args.self.now) (l ++ os) ws u) (sym c.new-operands.ensures.items) rest);
      same = refl;
      count = ap (λ l. length l) c.new-operands.ensures.items;
    }

pub loop-at-preserved : goal.loop-at-preserved
loop-at-preserved c =
    record {
      leads =
          λ w os ws u agrees rest.
          let es = c.args.expressions.now in
          let at = c.loop-at.at in
          let o = c.in_ok-operand.operand in
          let value = c.in_ok-operand.ensures.leads w agrees in
          let x = c.index-expressions-at.result in
          let bound = c.loop-at-test.true in
          let inside : at < length es = omega arith in
          let there = slice_get-get_or es at x inside ∙ ap (λ y. Some y) (sym c.index-expressions-at.is) in
          let e = c.loop-at.invariant.leads w (o ∷ os) ws u value.0
          (all_evaluated w.graph (w.out c.args.site.occurrence) c.args.site.place es at (at + 1) x o os _ _ ws _ _ u refl there value.1 rest) in (
            e.0,
            subst (λ l. EvaluatesAll w.graph (w.out c.args.site.occurrence) c.args.site.place (map expression_of es) c.args.temporaries.now.items (stage_of w c.args.self.now) l ws u)
                (sym (ap (λ l. l ++ os) c.in_ok-push.ensures.items ∙ append_assoc c.loop-at.operands.items (o ∷ []) os)) e.1,
          );
      same = c.in_ok-operand.ensures.same ∙ c.loop-at.invariant.same;
      count = one_more _ _ _ c.in_ok-push.ensures.items ∙ ap suc c.loop-at.invariant.count ∙ sym (add-one c.loop-at.at);
    }

pub returns-clause-leads : goal.returns-clause-leads
returns-clause-leads c = λ w agrees.
    let es = c.args.expressions.now in
    let above = c.loop-at-test.false in
    let end = c.loop-at.auto.at-end in
    let none : drop c.loop-at.at es ≡ [] = drop_all c.loop-at.at es (omega arith) in
    let ts = c.loop-at.temporaries.items in
    let s = stage_of w c.loop-at.self in
    let e = c.loop-at.invariant.leads w [] ts s agrees
    (subst (λ l. EvaluatesAll w.graph (w.out c.args.site.occurrence) c.args.site.place (map expression_of l) ts s [] ts s) (sym none) evaluates_none) in
    (e.0, subst (λ l. EvaluatesAll w.graph (w.out c.args.site.occurrence) c.args.site.place (map expression_of es) c.args.temporaries.now.items (stage_of w c.args.self.now) l ts s) (append-nil c.loop-at.operands.items) e.1)

pub evaluate-requires : goal.evaluate-requires
evaluate-requires c =
    let es = c.args.expressions.now in
    let x = c.index-expressions-at.result in
    let bound = c.loop-at-test.true in
    let inside : c.loop-at.at < length es = omega arith in
    let there = slice_get-get_or es c.loop-at.at x inside ∙ ap (λ y. Some y) (sym c.index-expressions-at.is) in
    subst (λ k. IsReady k c.args.site.occurrence (expression_of x)) (sym c.loop-at.invariant.same)
    (ready_at (known c.args.self.now) c.args.site.occurrence es c.loop-at.at x c.requires there)

pub returns-clause-count : goal.returns-clause-count
returns-clause-count c =
    let above = c.loop-at-test.false in
    let end = c.loop-at.auto.at-end in
    let count = c.loop-at.invariant.count in
    omega arith
