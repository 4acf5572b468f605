use Rattle.std.proofs.Common.{◌≡◌, ◌∙◌, Some, sym, subst, ap, rules}
use Rattle.mc_flow.specs.declared.instr.Instr.{Instr}
use Rattle.mc_flow.specs.declared.instr.Instr.TheVariants.{AssertShape}
use Rattle.mc_rules_steps.specs.Fitting.{FitsAt}
use Rattle.mc_rules_steps.specs.Judges.{asserting}
use Rattle.mc_apply_steps.specs.Step.Stepped.{Steps}
use Rattle.mc_apply_steps.proofs.instructions.dispatch.assert_at.Goals as goal

pub assert_shape-requires : goal.assert_shape-requires
assert_shape-requires c =
    let own : c.as_slice.result.now ≡ c.in-AssertShape.os = search rules in
    let is : AssertShape c.in-AssertShape.pred c.in-AssertShape.o c.as_slice.result.now c.in-AssertShape.q ≡ c.args.code.now = ap (λ os. AssertShape c.in-AssertShape.pred c.in-AssertShape.o os c.in-AssertShape.q) own ∙ sym c.in-AssertShape.is in
    subst (λ (i : Instr). FitsAt i c.args.s) (sym is) c.requires

pub returns-in-AssertShape : goal.returns-in-AssertShape
returns-in-AssertShape c = λ know tells.
    let own : c.as_slice.result.now ≡ c.in-AssertShape.os = search rules in
    let is : AssertShape c.in-AssertShape.pred c.in-AssertShape.o c.as_slice.result.now c.in-AssertShape.q ≡ c.args.code.now = ap (λ os. AssertShape c.in-AssertShape.pred c.in-AssertShape.o os c.in-AssertShape.q) own ∙ sym c.in-AssertShape.is in
    subst (λ (i : Instr). Steps (asserting know c.args.p (Some i) c.args.s) c.args.s c.assert_shape.result) is (c.assert_shape.ensures know tells)
