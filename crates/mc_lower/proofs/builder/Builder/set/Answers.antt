use Rattle.std.proofs.Common.{ap, ◌∙◌}
use Rattle.mc_lower_spec.specs.Graphs.{point}
use Rattle.mc_lower_spec.specs.Values.{sets}
use Rattle.mc_lower.specs.Valued.{operation_of}
use Rattle.mc_lower.specs.Worlds.{settled}
use Rattle.mc_lower.proofs.Agreeing.{appended, targets}
use Rattle.mc_lower.proofs.Valuing.{settled_sets}
use Rattle.mc_lower.proofs.builder.Builder.set.Goals as goal

pub returns-clause-leads : goal.returns-clause-leads
returns-clause-leads c = λ w agrees.
    let later = c.in_ok-append.ensures.leads w agrees in
    let to = targets _ _ _ c.target.ensures c.next-next.ensures in
    let code = ap (λ i. settled w.at i) c.sets.ensures ∙ settled_sets w.at (operation_of c.args.operation) c.args.variable c.target.result
    ∙ ap (λ q. sets (operation_of c.args.operation) c.args.variable (point (w.at q.0))) to in
    (later.0, appended w _ c.args.place _ _ (λ q. sets (operation_of c.args.operation) c.args.variable q) _ _ code later.1)
