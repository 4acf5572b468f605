use Rattle.std.proofs.Common.{Some, ap, sym, subst}
use Rattle.mc_flow.specs.declared.instr.Instr.{Instr}
use Rattle.mc_rules_steps.specs.Judges.{testing_at_most}
use Rattle.mc_rules_steps.specs.Sums.{ranged}
use Rattle.mc_apply_steps.specs.Step.Stepped.{Steps}
use Rattle.mc_apply_steps.proofs.instructions.dispatch.test_at_most_at.Goals as goal

pub returns-in-TestLe : goal.returns-in-TestLe
returns-in-TestLe c = λ know range tells fit.
    subst (λ (i : Instr). Steps (testing_at_most know range (Some i) c.args.s) c.args.s c.test_at_most.result) (sym c.in-TestLe.is)
    (c.test_at_most.ensures know range tells (fit c.in-TestLe.o c.in-TestLe.p (ap ranged c.in-TestLe.is)))
