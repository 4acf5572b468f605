use Rattle.std.proofs.Common.{Some, ap, sym, subst}
use Rattle.mc_flow.specs.declared.instr.Instr.{Instr}
use Rattle.mc_rules_steps.specs.Judges.{multiplying}
use Rattle.mc_rules_steps.specs.Sums.{ranged}
use Rattle.mc_apply_steps.specs.Step.Stepped.{Steps}
use Rattle.mc_apply_steps.proofs.instructions.dispatch.mul_at.Goals as goal

pub returns-in-Mul : goal.returns-in-Mul
returns-in-Mul c = λ know range tells fit.
    subst (λ (i : Instr). Steps (multiplying know range (Some i) c.args.s) c.args.s c.compute.result) (sym c.in-Mul.is)
    (c.compute.ensures know range tells (fit c.in-Mul.o c.in-Mul.p (ap ranged c.in-Mul.is)))
