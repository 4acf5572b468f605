use Rattle.std.proofs.Common.{subst}
use Rattle.mc_lower.specs.Worlds.{GoesTo, stage_of}
use Rattle.mc_lower.proofs.builder.Builder.go_out.Goals as goal

pub returns-clause-leads : goal.returns-clause-leads
returns-clause-leads c = λ w agrees.
    let gone = c.in_ok-go.ensures.leads w agrees in
    (gone.0, subst (λ q. GoesTo q (stage_of w c.args.self.now) (stage_of w c.go.new.self)) (c.out-last.ensures w gone.0) gone.1)
