use Rattle.std.proofs.Common.{[], map, subst}
use Rattle.mc_semantics.specs.Resolved.Views.{expression_of}
use Rattle.mc_lower_spec.specs.Graphs.{Undefines}
use Rattle.mc_lower_spec.specs.Lowering.{Passes}
use Rattle.mc_lower_spec.specs.Values.{EvaluatesAll}
use Rattle.mc_lower.specs.Worlds.{stage_of}
use Rattle.mc_lower.proofs.builder.Builder.give.Goals as goal

pub returns-clause-leads : goal.returns-clause-leads
returns-clause-leads c = λ w agrees.
    let cleared = c.in_ok-undefine.ensures.leads w agrees in
    let passed = c.in_ok-pass.ensures.leads w cleared.0 in
    let all = c.in_ok-operands.ensures.leads w passed.0 in
    let os = c.in_ok-operands.operands.items in
    let ts = c.evaluate_all.new.temporaries.items in
    let s = stage_of w c.args.self.now in
    let m = stage_of w c.evaluate_all.new.self in
    let n = stage_of w c.pass.new.self in
    let place = c.args.site.place in (
      all.0,
      record {
        operands = os;
        temporaries = ts;
        evaluated = m;
        copied = n;
        evaluates = subst (λ l. EvaluatesAll w.graph (w.out c.args.site.occurrence) place (map expression_of l) [] s os ts m) c.as_slice.ensures.value
            (subst (λ l. EvaluatesAll w.graph (w.out c.args.site.occurrence) place (map expression_of c.as_slice.result.now) l s os ts m) c.new-temporaries.ensures.items all.1);
        passes = subst (λ l. Passes w.graph place c.args.parameters.now l m n) c.as_slice-2.ensures.value passed.1;
        undefines = subst (λ l. Undefines w.graph place l n (stage_of w c.undefine.new.self)) c.as_slice-3.ensures.value cleared.1;
      },
    )
