use Rattle.std.proofs.Common.{Some, sym, subst}
use Rattle.mc_flow.specs.declared.instr.Instr.{Instr}
use Rattle.mc_rules_steps.specs.Judges.{loading}
use Rattle.mc_apply_steps.specs.Step.Stepped.{Steps}
use Rattle.mc_apply_steps.proofs.instructions.dispatch.load_at.Goals as goal

pub returns-in-Load : goal.returns-in-Load
returns-in-Load c = λ know tells.
    subst (λ (i : Instr). Steps (loading know (Some i) c.args.s) c.args.s c.load.result) (sym c.in-Load.is) (c.load.ensures know tells)
