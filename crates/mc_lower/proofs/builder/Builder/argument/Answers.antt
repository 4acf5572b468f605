use Rattle.std.proofs.Common.{◌≡◌, ap, ◌∙◌, rules, sym, subst}
use mir.Syntax.{w64}
use mir.Val.{to_z, of_z}
use Rattle.mc_flow.specs.declared.instr.Operand.TheVariants.{Const, Var}
use Rattle.mc_semantics.specs.Resolved.Programs.{constant}
use Rattle.mc_semantics.specs.Resolved.Views.{argument_of}
use Rattle.mc_lower_spec.specs.Lowering.{IsArgument, is_variable, is_constant}
use Rattle.mc_lower.specs.Worlds.{stage_of}
use Rattle.mc_lower.proofs.builder.Builder.argument.Goals as goal

pub returns-in-Variable : goal.returns-in-Variable
returns-in-Variable c = λ w agrees.
    subst (λ a. IsArgument w.graph (w.out c.args.occurrence) (stage_of w c.args.self.now) (argument_of a) (Var c.local-variable.result)) (sym c.in-Variable.is)
    (is_variable (c.local-variable.ensures w agrees))

pub returns-in-Constant : goal.returns-in-Constant
returns-in-Constant c = λ w agrees.
    let same : to_z w64 (of_z w64 c.in-Constant.value) ≡ c.in-Constant.value = search rules in
    subst (λ a. IsArgument w.graph (w.out c.args.occurrence) (stage_of w c.args.self.now) (argument_of a) c.constant.result) (sym c.in-Constant.is)
    (subst (λ o. IsArgument w.graph (w.out c.args.occurrence) (stage_of w c.args.self.now) (constant c.in-Constant.value) o) (sym (c.constant.ensures ∙ ap (λ v. Const v) same)) is_constant)
