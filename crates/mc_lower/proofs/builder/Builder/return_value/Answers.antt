use Rattle.mc_semantics.specs.Resolved.Views.{right_of}
use Rattle.mc_lower.specs.Left.{around_of}
use Rattle.mc_lower.proofs.Meeting.{returned_value}
use Rattle.mc_lower.proofs.builder.Builder.return_value.Goals as goal

pub returns-clause-leads : goal.returns-clause-leads
returns-clause-leads c = λ w agrees.
    let gone = c.in_ok-go_out.ensures.leads w agrees in
    let set = c.in_ok-set_to.ensures.leads w gone.0 in
    let made = c.own_result-variable.ensures w set.0 in
    (set.0, returned_value w.graph (around_of w c.args.context) c.args.place (right_of c.args.right.now) c.own_result-variable.result _ _ _ made set.1 gone.1)
