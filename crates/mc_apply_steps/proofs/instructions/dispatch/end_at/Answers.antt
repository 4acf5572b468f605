use Rattle.std.proofs.Common.{Some, sym, subst}
use Rattle.mc_flow.specs.declared.instr.Instr.{Instr}
use Rattle.mc_rules_steps.specs.Judges.{ending}
use Rattle.mc_apply_steps.specs.Step.Stepped.{Steps}
use Rattle.mc_apply_steps.proofs.instructions.dispatch.end_at.Goals as goal

pub returns-in-End : goal.returns-in-End
returns-in-End c = λ know tells.
    subst (λ (i : Instr). Steps (ending know (Some i) c.args.s) c.args.s c.end.result) (sym c.in-End.is) (c.end.ensures know tells)
