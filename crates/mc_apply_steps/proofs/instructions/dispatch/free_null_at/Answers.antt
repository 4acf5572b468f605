use Rattle.std.proofs.Common.{Some, sym, subst}
use Rattle.mc_flow.specs.declared.instr.Instr.{Instr}
use Rattle.mc_rules_steps.specs.Judges.{freeing_null}
use Rattle.mc_apply_steps.specs.Step.Stepped.{Steps}
use Rattle.mc_apply_steps.proofs.instructions.dispatch.free_null_at.Goals as goal

pub returns-in-Free : goal.returns-in-Free
returns-in-Free c = λ know tells.
    subst (λ (i : Instr). Steps (freeing_null know (Some i) c.args.s) c.args.s c.free_null.result) (sym c.in-Free.is) (c.free_null.ensures know tells)
