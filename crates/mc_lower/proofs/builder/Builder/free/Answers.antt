use Rattle.std.proofs.Common.{subst}
use Rattle.mc_semantics.specs.Resolved.Views.{expression_of}
use Rattle.mc_lower_spec.specs.Graphs.{Undefines}
use Rattle.mc_lower_spec.specs.Values.{Evaluates}
use Rattle.mc_lower.specs.Worlds.{stage_of}
use Rattle.mc_lower.proofs.builder.Builder.free.Goals as goal

pub returns-clause-leads : goal.returns-clause-leads
returns-clause-leads c = λ w agrees.
    let cleared = c.in_ok-undefine.ensures.leads w agrees in
    let freed_there = c.in_ok-release.ensures.leads w cleared.0 in
    let value = c.in_ok-operand.ensures.leads w freed_there.0 in (
      value.0,
      record {
        operand = c.in_ok-operand.operand;
        temporaries = _;
        evaluated = _;
        freed = _;
        evaluates = subst (λ l. Evaluates w.graph (w.out c.args.site.occurrence) c.args.site.place (expression_of c.args.pointer.now) l (stage_of w c.args.self.now) c.in_ok-operand.operand c.evaluate.new.temporaries.items (stage_of w c.evaluate.new.self))
            c.new-temporaries.ensures.items value.1;
        appends = freed_there.1;
        undefines = subst (λ l. Undefines w.graph c.args.site.place l (stage_of w c.release.new.self) (stage_of w c.undefine.new.self)) c.as_slice.ensures.value cleared.1;
      },
    )
