use Rattle.std.proofs.Common.{subst}
use Rattle.mc_lower_spec.specs.Graphs.{plain, Appends}
use Rattle.mc_lower_spec.specs.Values.{sets}
use Rattle.mc_lower_spec.specs.Lowering.{changes_variable}
use Rattle.mc_lower.specs.Worlds.{stage_of}
use Rattle.mc_lower.proofs.builder.Builder.change_variable.Goals as goal

pub returns-clause-leads : goal.returns-clause-leads
returns-clause-leads c = λ w agrees.
    let undefined = c.in_ok-undefine.ensures.leads w agrees in
    let put = c.in_ok-set.ensures.leads w undefined.0 in
    let appended = subst (λ op. Appends w.graph plain c.args.site.place (λ q. sets op c.local-variable.result q) (stage_of w c.args.self.now) (stage_of w c.set.new.self)) c.of.ensures put.1 in
    (put.0, λ e r value. changes_variable value (c.local-variable.ensures w put.0) appended undefined.1)
