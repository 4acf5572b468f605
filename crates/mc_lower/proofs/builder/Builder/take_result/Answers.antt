use Rattle.std.proofs.Common.{subst}
use Rattle.mc_flow.specs.declared.instr.Operand.TheVariants.{Var}
use Rattle.mc_lower_spec.specs.Values.{Puts}
use Rattle.mc_lower.specs.Valued.{target_of}
use Rattle.mc_lower.specs.Worlds.{stage_of}
use Rattle.mc_lower.proofs.builder.Builder.take_result.Goals as goal

pub returns-clause-leads : goal.returns-clause-leads
returns-clause-leads c = λ w agrees.
    let cleared = c.in_ok-undefine.ensures.leads w agrees in
    let put = c.in_ok-put_into.ensures.leads w cleared.0 in
    let puts_there = subst (λ l. Puts w.graph (w.out c.args.site.occurrence) c.args.site.place (target_of c.args.target) (Var c.in-Some.returned) l (stage_of w c.args.self.now) (stage_of w c.put_into.new.self))
    c.new-temporaries.ensures.items put.1 in
    (put.0, record { returned = c.in-Some.returned; there = c.in-Some.is; taken = _; puts = puts_there; undefines = cleared.1 })
