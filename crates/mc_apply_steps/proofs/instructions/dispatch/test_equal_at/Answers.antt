use Rattle.std.proofs.Common.{Some, sym, subst}
use Rattle.mc_flow.specs.declared.instr.Instr.{Instr}
use Rattle.mc_rules_steps.specs.Judges.{testing_equal}
use Rattle.mc_apply_steps.specs.Step.Stepped.{Steps}
use Rattle.mc_apply_steps.proofs.instructions.dispatch.test_equal_at.Goals as goal

pub returns-in-TestEq : goal.returns-in-TestEq
returns-in-TestEq c = λ know tells.
    subst (λ (i : Instr). Steps (testing_equal know (Some i) c.args.s) c.args.s c.test_equal.result) (sym c.in-TestEq.is) (c.test_equal.ensures know tells)
