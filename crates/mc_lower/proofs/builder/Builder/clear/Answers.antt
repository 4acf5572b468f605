use Rattle.std.proofs.Common.{sym, ◌∙◌, subst}
use Rattle.mc_lower_spec.specs.Graphs.{Undefines}
use Rattle.mc_lower.specs.Worlds.{stage_of}
use Rattle.mc_lower.proofs.Agreeing.{went}
use Rattle.mc_lower.proofs.Waiting.{waits_on}
use Rattle.mc_lower.proofs.builder.Builder.clear.Goals as goal

pub returns-clause-leads : goal.returns-clause-leads
returns-clause-leads c = λ w agrees.
    let gone = c.in_ok-go_last.ensures.leads w agrees in
    let cleared = c.in_ok-undefine.ensures.leads w gone.0 in
    (cleared.0, subst (λ u. Undefines w.graph c.args.place c.args.temporaries.now (stage_of w c.args.self.now) u) (went _ _ _ _ _ gone.1) cleared.1)

pub returns-clause-rest : goal.returns-clause-rest
returns-clause-rest c = sym c.in_ok-undefine.ensures.same ∙ c.in_ok-go_last.ensures.rest

pub go_last-requires : goal.go_last-requires
go_last-requires c = waits_on _ _ c.in_ok-undefine.ensures.same c.requires
