use Rattle.std.proofs.Common.{◌≡◌, false, true, rules, subst, sym, ◌∙◌}
use Rattle.mc_flow.specs.declared.instr.Instr.TheVariants.{Copy}
use Rattle.mc_lower_spec.specs.Graphs.{Appends, nowhere, plain}
use Rattle.mc_lower_spec.specs.Lowering.{falls, falls_in_main}
use Rattle.mc_lower.specs.Worlds.{stage_of}
use Rattle.mc_lower.proofs.builder.Builder.fall.Goals as goal

pub returns-clause-leads : goal.returns-clause-leads
returns-clause-leads c = λ w agrees.
    let copied = c.in_ok-copy.ensures.leads w agrees in
    let made = c.own_result-own.ensures w copied.0 in
    let is : c.is_main.result ≡ true = search rules in (
      copied.0,
      falls_in_main (c.is_main.ensures.0 is) made
          (subst (λ o. Appends w.graph plain nowhere (λ q. Copy c.own_result-own.result o q) (stage_of w c.args.self.now) (stage_of w c.copy.new.self)) c.nothing.ensures copied.1),
    )

pub returns-then-not-is_main-clause-leads : goal.returns-then-not-is_main-clause-leads
returns-then-not-is_main-clause-leads c = λ w agrees.
    let isnt : c.is_main.result ≡ false = search rules in
    (agrees, falls (λ main. let never : false ≡ true = sym isnt ∙ c.is_main.ensures.1 main in cc))
