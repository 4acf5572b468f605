use Rattle.std.proofs.Common.{subst}
use Rattle.mc_lower_spec.specs.Graphs.{Undefines, leaves}
use Rattle.mc_lower.specs.Worlds.{stage_of}
use Rattle.mc_lower.proofs.builder.Builder.leave.Goals as goal

pub returns-clause-leads : goal.returns-clause-leads
returns-clause-leads c = λ w agrees.
    let later = c.in_ok-undefine.ensures.leads w agrees in
    (later.0, leaves (c.in_ok-made.ensures w later.0) (subst (λ l. Undefines w.graph c.args.place l (stage_of w c.args.self.now) (stage_of w c.undefine.new.self)) c.as_slice.ensures.value later.1))
