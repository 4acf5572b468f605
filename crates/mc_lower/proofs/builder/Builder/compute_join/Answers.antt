use Rattle.std.proofs.Common.{refl}
use Rattle.mc_lower.proofs.builder.Builder.compute_join.Goals as goal

pub returns-clause-leads : goal.returns-clause-leads
returns-clause-leads c = λ w agrees.
    let second = c.in_ok-right.ensures.leads w agrees in
    let first = c.in_ok-left.ensures.leads w second.0 in
    (first.0, (c.in_ok-left.left, c.in_ok-right.right, _, _, first.1, second.1, (c.of.result, refl, c.of.ensures)))
