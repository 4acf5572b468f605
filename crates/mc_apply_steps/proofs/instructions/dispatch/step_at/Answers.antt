use Rattle.std.proofs.Common.{Some, sym, subst}
use Rattle.std.specs.Prelude.{Result}
use Rattle.mc_base.specs.declared.ids.PointId.{PointId}
use Rattle.mc_flow.specs.declared.graph.Flow.{Flow}
use Rattle.mc_flow.specs.declared.instr.Instr.{Instr}
use Rattle.mc_state.specs.Known.{Test}
use Rattle.mc_state.specs.declared.line.InstrRule.{InstrRule}
use Rattle.mc_state.specs.State.{State}
use Rattle.mc_rules_steps.specs.Judges.{stepping_code}
use Rattle.mc_rules_steps.specs.Sums.{Ranges}
use Rattle.mc_apply_steps.specs.Step.Stepped.{Steps}
use Rattle.mc_apply_steps.specs.declared.step.next.Refused.{Refused}
use Rattle.mc_apply_steps.specs.declared.step.next.Stepped.{Stepped}
use Rattle.mc_apply_steps.proofs.instructions.dispatch.step_at.Goals as goal

-- what the rule gives at the instruction, as an answer
abbrev Gives : Test → Ranges → Flow → PointId → Instr → State → Result Stepped Refused → InstrRule → Type 0
Gives know range flow p code s answer rule = Steps (stepping_code know range flow rule p (Some code) s) s answer

pub returns-in-S1 : goal.returns-in-S1
returns-in-S1 c = λ know range tells fit.
    subst (Gives know range c.args.flow.now c.args.p c.args.code.now c.args.s c.skip_at.result) (sym c.in-S1.is) (c.skip_at.ensures know tells)

pub returns-in-S2 : goal.returns-in-S2
returns-in-S2 c = λ know range tells fit.
    subst (Gives know range c.args.flow.now c.args.p c.args.code.now c.args.s c.copy_at.result) (sym c.in-S2.is) (c.copy_at.ensures know tells)

pub returns-in-S3 : goal.returns-in-S3
returns-in-S3 c = λ know range tells fit.
    subst (Gives know range c.args.flow.now c.args.p c.args.code.now c.args.s c.forget_at.result) (sym c.in-S3.is) (c.forget_at.ensures know tells)

pub returns-in-S4 : goal.returns-in-S4
returns-in-S4 c = λ know range tells fit.
    subst (Gives know range c.args.flow.now c.args.p c.args.code.now c.args.s c.take_at.result) (sym c.in-S4.is) (c.take_at.ensures know tells)

pub returns-in-S5 : goal.returns-in-S5
returns-in-S5 c = λ know range tells fit.
    subst (Gives know range c.args.flow.now c.args.p c.args.code.now c.args.s c.add_at.result) (sym c.in-S5.is) (c.add_at.ensures know range tells fit)

pub returns-in-S6 : goal.returns-in-S6
returns-in-S6 c = λ know range tells fit.
    subst (Gives know range c.args.flow.now c.args.p c.args.code.now c.args.s c.sub_at.result) (sym c.in-S6.is) (c.sub_at.ensures know range tells fit)

pub returns-in-S7 : goal.returns-in-S7
returns-in-S7 c = λ know range tells fit.
    subst (Gives know range c.args.flow.now c.args.p c.args.code.now c.args.s c.mul_at.result) (sym c.in-S7.is) (c.mul_at.ensures know range tells fit)

pub returns-in-S8 : goal.returns-in-S8
returns-in-S8 c = λ know range tells fit.
    subst (Gives know range c.args.flow.now c.args.p c.args.code.now c.args.s c.load_at.result) (sym c.in-S8.is) (c.load_at.ensures know tells)

pub returns-in-S9 : goal.returns-in-S9
returns-in-S9 c = λ know range tells fit.
    subst (Gives know range c.args.flow.now c.args.p c.args.code.now c.args.s c.store_at.result) (sym c.in-S9.is) (c.store_at.ensures know tells)

pub returns-in-S10 : goal.returns-in-S10
returns-in-S10 c = λ know range tells fit.
    subst (Gives know range c.args.flow.now c.args.p c.args.code.now c.args.s c.malloc_at.result) (sym c.in-S10.is) (c.malloc_at.ensures know tells)

pub returns-in-S11 : goal.returns-in-S11
returns-in-S11 c = λ know range tells fit.
    subst (Gives know range c.args.flow.now c.args.p c.args.code.now c.args.s c.free_null_at.result) (sym c.in-S11.is) (c.free_null_at.ensures know tells)

pub returns-in-S12 : goal.returns-in-S12
returns-in-S12 c = λ know range tells fit.
    subst (Gives know range c.args.flow.now c.args.p c.args.code.now c.args.s c.free_at.result) (sym c.in-S12.is) (c.free_at.ensures know tells)

pub returns-in-S13 : goal.returns-in-S13
returns-in-S13 c = λ know range tells fit.
    subst (Gives know range c.args.flow.now c.args.p c.args.code.now c.args.s c.test_equal_at.result) (sym c.in-S13.is) (c.test_equal_at.ensures know tells)

pub returns-in-S14 : goal.returns-in-S14
returns-in-S14 c = λ know range tells fit.
    subst (Gives know range c.args.flow.now c.args.p c.args.code.now c.args.s c.test_at_most_at.result) (sym c.in-S14.is) (c.test_at_most_at.ensures know range tells fit)

pub returns-in-S15 : goal.returns-in-S15
returns-in-S15 c = λ know range tells fit.
    subst (Gives know range c.args.flow.now c.args.p c.args.code.now c.args.s c.assume_at.result) (sym c.in-S15.is) (c.assume_at.ensures know tells)

pub returns-in-S16 : goal.returns-in-S16
returns-in-S16 c = λ know range tells fit.
    subst (Gives know range c.args.flow.now c.args.p c.args.code.now c.args.s c.assert_at.result) (sym c.in-S16.is) (c.assert_at.ensures know tells)

pub returns-in-S17 : goal.returns-in-S17
returns-in-S17 c = λ know range tells fit.
    subst (Gives know range c.args.flow.now c.args.p c.args.code.now c.args.s c.end_at.result) (sym c.in-S17.is) (c.end_at.ensures know tells)

pub returns-in-S18 : goal.returns-in-S18
returns-in-S18 c = λ know range tells fit.
    subst (Gives know range c.args.flow.now c.args.p c.args.code.now c.args.s c.assert_empty_at.result) (sym c.in-S18.is) (c.assert_empty_at.ensures know tells)
