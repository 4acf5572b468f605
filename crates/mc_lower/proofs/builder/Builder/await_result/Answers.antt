use Rattle.std.proofs.Common.{Some, None, subst, sym}
use Rattle.mc_lower_spec.specs.Lowering.{Awaits, awaits, awaits_none}
use Rattle.mc_lower.specs.Worlds.{stage_of}
use Rattle.mc_lower.proofs.builder.Builder.await_result.Goals as goal

pub returns-in_ok-undefine_all-in-Some-clause-leads : goal.returns-in_ok-undefine_all-in-Some-clause-leads
returns-in_ok-undefine_all-in-Some-clause-leads c = λ w agrees.
    let undefined = c.in_ok-undefine_all-in-Some.ensures.leads w agrees in
    let created = c.in_ok-result-in-Some.ensures.leads w undefined.0 in
    (created.0, subst (λ k. Awaits w.graph (w.out c.args.occurrence) c.args.place k (stage_of w c.args.self.now) (Some c.in_ok-result-in-Some.result) (stage_of w c.undefine_all.new.self)) (sym c.in-Some.is) (awaits created.1 undefined.1))

pub returns-in-None-clause-leads : goal.returns-in-None-clause-leads
returns-in-None-clause-leads c = λ w agrees.
    let s = stage_of w c.args.self.now in
    (agrees, subst (λ k. Awaits w.graph (w.out c.args.occurrence) c.args.place k s None s) (sym c.in-None.is) awaits_none)
