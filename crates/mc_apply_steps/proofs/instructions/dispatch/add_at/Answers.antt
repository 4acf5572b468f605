use Rattle.std.proofs.Common.{Some, ap, sym, subst}
use Rattle.mc_flow.specs.declared.instr.Instr.{Instr}
use Rattle.mc_rules_steps.specs.Judges.{adding}
use Rattle.mc_rules_steps.specs.Sums.{ranged}
use Rattle.mc_apply_steps.specs.Step.Stepped.{Steps}
use Rattle.mc_apply_steps.proofs.instructions.dispatch.add_at.Goals as goal

pub returns-in-Add : goal.returns-in-Add
returns-in-Add c = λ know range tells fit.
    subst (λ (i : Instr). Steps (adding know range (Some i) c.args.s) c.args.s c.compute.result) (sym c.in-Add.is)
    (c.compute.ensures know range tells (fit c.in-Add.o c.in-Add.p (ap ranged c.in-Add.is)))
