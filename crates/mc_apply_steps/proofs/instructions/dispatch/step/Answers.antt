use Rattle.std.proofs.Common.{◌≡◌, Option, None, refl, sym, subst}
use Rattle.mc_flow.specs.declared.instr.Instr.{Instr}
use Rattle.mc_rules_steps.specs.Judges.{stepping_code}
use Rattle.mc_rules_steps.specs.Operands.{code_at}
use Rattle.mc_apply_steps.specs.Step.Stepped.{Steps}
use Rattle.mc_apply_steps.proofs.InstructionsLemmas.Points.{no_point}
use Rattle.mc_apply_steps.proofs.instructions.dispatch.step.Goals as goal

pub step_at-requires : goal.step_at-requires
step_at-requires c =
    c.instructions_fit.ensures c.args.flow.now c.args.defs.now c.args.p c.in-Some.code.now c.args.s c.requires.valid c.requires.made (sym c.in-Some.ensures)

pub returns-in-Some : goal.returns-in-Some
returns-in-Some c = λ know range tells fit.
    subst (λ (i : Option Instr). Steps (stepping_code know range c.args.flow.now c.args.rule c.args.p i c.args.s) c.args.s c.step_at.result) c.in-Some.ensures
    (c.step_at.ensures know range tells (λ o o' is. fit c.in-Some.code.now o o' (sym c.in-Some.ensures) is))

pub returns-in-None : goal.returns-in-None
returns-in-None c = λ know range tells fit.
    let none : code_at c.args.flow.now c.args.p ≡ None = sym c.in-None.ensures in
    (rw none (no_point know range c.args.flow.now c.args.rule c.args.p c.args.s), refl)
