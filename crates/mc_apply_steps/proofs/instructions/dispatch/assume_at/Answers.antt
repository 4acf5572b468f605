use Rattle.std.proofs.Common.{◌≡◌, ◌∙◌, Some, sym, subst, ap, rules}
use Rattle.mc_flow.specs.declared.instr.Instr.{Instr}
use Rattle.mc_flow.specs.declared.instr.Instr.TheVariants.{AssumeShape}
use Rattle.mc_rules_steps.specs.Fitting.{FitsAt}
use Rattle.mc_rules_steps.specs.Judges.{assuming}
use Rattle.mc_apply_steps.specs.Step.Stepped.{Steps}
use Rattle.mc_apply_steps.proofs.instructions.dispatch.assume_at.Goals as goal

pub assume_shape-requires : goal.assume_shape-requires
assume_shape-requires c =
    let own : c.as_slice.result.now ≡ c.in-AssumeShape.os = search rules in
    let is : AssumeShape c.in-AssumeShape.pred c.in-AssumeShape.x c.as_slice.result.now c.in-AssumeShape.q ≡ c.args.code.now = ap (λ os. AssumeShape c.in-AssumeShape.pred c.in-AssumeShape.x os c.in-AssumeShape.q) own ∙ sym c.in-AssumeShape.is in
    subst (λ (i : Instr). FitsAt i c.args.s) (sym is) c.requires

pub returns-in-AssumeShape : goal.returns-in-AssumeShape
returns-in-AssumeShape c = λ know tells.
    let own : c.as_slice.result.now ≡ c.in-AssumeShape.os = search rules in
    let is : AssumeShape c.in-AssumeShape.pred c.in-AssumeShape.x c.as_slice.result.now c.in-AssumeShape.q ≡ c.args.code.now = ap (λ os. AssumeShape c.in-AssumeShape.pred c.in-AssumeShape.x os c.in-AssumeShape.q) own ∙ sym c.in-AssumeShape.is in
    subst (λ (i : Instr). Steps (assuming know (Some i) c.args.s) c.args.s c.assume_shape.result) is (c.assume_shape.ensures know tells)
