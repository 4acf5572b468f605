use Rattle.std.proofs.Common.{Some, sym, subst}
use Rattle.mc_flow.specs.declared.instr.Instr.{Instr}
use Rattle.mc_rules_steps.specs.Judges.{taking}
use Rattle.mc_apply_steps.specs.Step.Stepped.{Steps}
use Rattle.mc_apply_steps.proofs.instructions.dispatch.take_at.Goals as goal

pub returns-in-Input : goal.returns-in-Input
returns-in-Input c = λ know tells.
    subst (λ (i : Instr). Steps (taking know (Some i) c.args.s) c.args.s c.take.result) (sym c.in-Input.is) (c.take.ensures know tells)
