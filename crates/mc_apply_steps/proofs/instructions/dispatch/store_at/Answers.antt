use Rattle.std.proofs.Common.{Some, sym, subst}
use Rattle.mc_flow.specs.declared.instr.Instr.{Instr}
use Rattle.mc_rules_steps.specs.Judges.{storing}
use Rattle.mc_apply_steps.specs.Step.Stepped.{Steps}
use Rattle.mc_apply_steps.proofs.instructions.dispatch.store_at.Goals as goal

pub returns-in-Store : goal.returns-in-Store
returns-in-Store c = λ know tells.
    subst (λ (i : Instr). Steps (storing know (Some i) c.args.s) c.args.s c.store.result) (sym c.in-Store.is) (c.store.ensures know tells)
