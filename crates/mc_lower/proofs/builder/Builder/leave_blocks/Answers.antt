use Rattle.std.proofs.Common.{subst, ◌∙◌}
use Rattle.mc_lower_spec.specs.Graphs.{Leaves}
use Rattle.mc_lower.specs.Worlds.{stage_of}
use Rattle.mc_lower.proofs.builder.Builder.leave_blocks.Goals as goal

pub returns-clause-leads : goal.returns-clause-leads
returns-clause-leads c = λ w agrees.
    let later = c.in_ok-leave.ensures.leads w agrees in
    (later.0, subst (λ l. Leaves w.graph (w.out c.args.occurrence) c.args.place l (stage_of w c.args.self.now) (stage_of w c.leave.new.self)) (c.as_slice.ensures.value ∙ c.in_ok-numbers.ensures w later.0) later.1)
