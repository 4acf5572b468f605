use Rattle.std.proofs.Common.{Some, sym, subst}
use Rattle.mc_flow.specs.declared.instr.Instr.{Instr}
use Rattle.mc_rules_steps.specs.Judges.{allocating}
use Rattle.mc_apply_steps.specs.Step.Stepped.{Steps}
use Rattle.mc_apply_steps.proofs.instructions.dispatch.malloc_at.Goals as goal

pub returns-in-Malloc : goal.returns-in-Malloc
returns-in-Malloc c = λ know tells.
    subst (λ (i : Instr). Steps (allocating know c.args.flow.now (Some i) c.args.s) c.args.s c.malloc.result) (sym c.in-Malloc.is) (c.malloc.ensures know tells)
