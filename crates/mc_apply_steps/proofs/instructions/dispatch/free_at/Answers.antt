use Rattle.std.proofs.Common.{Some, sym, subst}
use Rattle.mc_flow.specs.declared.instr.Instr.{Instr}
use Rattle.mc_rules_steps.specs.Judges.{freeing}
use Rattle.mc_apply_steps.specs.Step.Stepped.{Steps}
use Rattle.mc_apply_steps.proofs.instructions.dispatch.free_at.Goals as goal

pub returns-in-Free : goal.returns-in-Free
returns-in-Free c = λ know tells.
    subst (λ (i : Instr). Steps (freeing know (Some i) c.args.s) c.args.s c.free.result) (sym c.in-Free.is) (c.free.ensures know tells)
