use Rattle.std.proofs.Common.{ap}
use Rattle.std.specs.Prelude.{option_map}
use Rattle.mc_lower.specs.Left.{around_of, turns_in}
use Rattle.mc_lower.proofs.Meeting.{broken}
use Rattle.mc_lower.proofs.builder.Builder.break_loop.Goals as goal

pub returns-clause-leads : goal.returns-clause-leads
returns-clause-leads c = λ w agrees.
    let gone = c.in_ok-go.ensures.leads w agrees in
    let left = c.in_ok-leave_blocks.ensures.leads w gone.0 in
    let turns = c.in-Some.turns in
    (left.0, broken w.graph (around_of w c.args.context) c.args.place (turns_in w turns) _ _ _ (ap (λ o. option_map (λ t. turns_in w t) o) c.in-Some.is) left.1 gone.1)
