use Rattle.std.proofs.Common.{refl, subst, sym}
use Rattle.mc_flow.specs.declared.instr.Operand.TheVariants.{Var}
use Rattle.mc_lower.specs.Valued.{IsOperand}
use Rattle.mc_lower.specs.Worlds.{stage_of}
use Rattle.mc_lower.proofs.builder.Builder.operand_of.Goals as goal

pub returns-in_ok-variable-in-Computed-clause-leads : goal.returns-in_ok-variable-in-Computed-clause-leads
returns-in_ok-variable-in-Computed-clause-leads c = λ w agrees.
    let there = c.in_ok-variable-in-Computed.ensures.leads w agrees in
    let t = c.in_ok-variable-in-Computed.variable in (
      there.0,
      subst (λ v. IsOperand w.graph c.args.place v c.args.temporaries.now.items (stage_of w c.args.self.now) (Var t) c.take.new.temporaries.items (stage_of w c.take.new.self))
          (sym c.in-Computed.is) (t, there.1, refl),
    )
