use Rattle.std.proofs.Common.{◌≡◌, ◌∙◌, Some, sym, subst, ap, rules}
use Rattle.mc_flow.specs.declared.instr.Instr.{Instr}
use Rattle.mc_flow.specs.declared.instr.Instr.TheVariants.{Undef}
use Rattle.mc_rules_steps.specs.Judges.{forgetting}
use Rattle.mc_apply_steps.specs.Step.Stepped.{Steps}
use Rattle.mc_apply_steps.proofs.instructions.dispatch.forget_at.Goals as goal

pub returns-in-Undef : goal.returns-in-Undef
returns-in-Undef c = λ know tells.
    let own : c.as_slice.result.now ≡ c.in-Undef.xs = search rules in
    let is : Undef c.as_slice.result.now c.in-Undef.q ≡ c.args.code.now = ap (λ xs. Undef xs c.in-Undef.q) own ∙ sym c.in-Undef.is in
    subst (λ (i : Instr). Steps (forgetting know (Some i) c.args.s) c.args.s c.forget.result) is (c.forget.ensures know tells)
