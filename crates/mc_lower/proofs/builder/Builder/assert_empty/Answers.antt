use Rattle.std.proofs.Common.{ap}
use Rattle.mc_flow.specs.declared.instr.Instr.TheVariants.{AssertEmpty}
use Rattle.mc_lower_spec.specs.Graphs.{point}
use Rattle.mc_lower.proofs.Agreeing.{appended, targets}
use Rattle.mc_lower.proofs.builder.Builder.assert_empty.Goals as goal

pub returns-clause-leads : goal.returns-clause-leads
returns-clause-leads c = λ w agrees.
    let later = c.in_ok-append.ensures.leads w agrees in
    let to = targets _ _ _ c.target.ensures c.next-next.ensures in
    (later.0, appended w _ c.args.place _ _ (λ q. AssertEmpty q) _ _ (ap (λ q. AssertEmpty (point (w.at q.0))) to) later.1)
