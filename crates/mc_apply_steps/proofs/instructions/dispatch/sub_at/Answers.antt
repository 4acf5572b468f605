use Rattle.std.proofs.Common.{Some, ap, sym, subst}
use Rattle.mc_flow.specs.declared.instr.Instr.{Instr}
use Rattle.mc_rules_steps.specs.Judges.{subtracting}
use Rattle.mc_rules_steps.specs.Sums.{ranged}
use Rattle.mc_apply_steps.specs.Step.Stepped.{Steps}
use Rattle.mc_apply_steps.proofs.instructions.dispatch.sub_at.Goals as goal

pub returns-in-Sub : goal.returns-in-Sub
returns-in-Sub c = λ know range tells fit.
    subst (λ (i : Instr). Steps (subtracting know range (Some i) c.args.s) c.args.s c.compute.result) (sym c.in-Sub.is)
    (c.compute.ensures know range tells (fit c.in-Sub.o c.in-Sub.p (ap ranged c.in-Sub.is)))
