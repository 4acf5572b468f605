use Rattle.std.proofs.Common.{Some, sym, subst}
use Rattle.mc_flow.specs.declared.instr.Instr.{Instr}
use Rattle.mc_rules_steps.specs.Judges.{emptying}
use Rattle.mc_apply_steps.specs.Step.Stepped.{Steps}
use Rattle.mc_apply_steps.proofs.instructions.dispatch.assert_empty_at.Goals as goal

pub returns-in-AssertEmpty : goal.returns-in-AssertEmpty
returns-in-AssertEmpty c = λ know tells.
    subst (λ (i : Instr). Steps (emptying know (Some i) c.args.s) c.args.s c.assert_empty.result) (sym c.in-AssertEmpty.is) (c.assert_empty.ensures know tells)
