use Rattle.std.proofs.Common.{sym, subst}
use Rattle.mc_lower_spec.specs.Lowering.{Answers, answers, answers_none}
use Rattle.mc_lower.specs.Worlds.{stage_of}
use Rattle.mc_lower.proofs.builder.Builder.begin.Goals as goal

pub returns-in_ok-create_result-in-Some-clause-leads : goal.returns-in_ok-create_result-in-Some-clause-leads
returns-in_ok-create_result-in-Some-clause-leads c = λ w agrees.
    let e = c.in_ok-create_result-in-Some.ensures.leads w agrees in
    (e.0, subst (λ k. Answers w.graph (w.out c.args.occurrence) k (stage_of w c.args.self.now) (stage_of w c.create_result.new.self)) (sym c.in-Some.is) (answers e.1))

pub returns-in-None-clause-leads : goal.returns-in-None-clause-leads
returns-in-None-clause-leads c = λ w agrees.
    let s = stage_of w c.args.self.now in
    (agrees, subst (λ k. Answers w.graph (w.out c.args.occurrence) k s s) (sym c.in-None.is) answers_none)
