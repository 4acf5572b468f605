use Rattle.std.proofs.Common.{Some, sym, subst}
use Rattle.mc_flow.specs.declared.instr.Instr.{Instr}
use Rattle.mc_rules_steps.specs.Judges.{skipping}
use Rattle.mc_apply_steps.specs.Step.Stepped.{Steps}
use Rattle.mc_apply_steps.proofs.instructions.dispatch.skip_at.Goals as goal

pub returns-in-Skip : goal.returns-in-Skip
returns-in-Skip c = λ know tells.
    subst (λ (i : Instr). Steps (skipping know (Some i) c.args.s) c.args.s c.skip.result) (sym c.in-Skip.is) (c.skip.ensures know tells)
