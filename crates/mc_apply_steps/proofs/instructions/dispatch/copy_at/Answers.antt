use Rattle.std.proofs.Common.{Some, sym, subst}
use Rattle.mc_flow.specs.declared.instr.Instr.{Instr}
use Rattle.mc_rules_steps.specs.Judges.{copying}
use Rattle.mc_apply_steps.specs.Step.Stepped.{Steps}
use Rattle.mc_apply_steps.proofs.instructions.dispatch.copy_at.Goals as goal

pub returns-in-Copy : goal.returns-in-Copy
returns-in-Copy c = λ know tells.
    subst (λ (i : Instr). Steps (copying know (Some i) c.args.s) c.args.s c.copy.result) (sym c.in-Copy.is) (c.copy.ensures know tells)
