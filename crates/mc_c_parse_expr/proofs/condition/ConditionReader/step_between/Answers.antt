use Rattle.std.proofs.Common.{◌∙◌, subst, sym}
use Rattle.mc_c_parse_expr.specs.declared.condition.ConditionSpot.{ConditionSpot}
use Rattle.mc_c_parse_expr.specs.Conditions.{AtConditionSpot, CompletesCondition, StepsCondition}
use Rattle.mc_c_parse_expr.proofs.condition.ConditionReader.step_between.Goals as goal

pub returns-in-Operand : goal.returns-in-Operand
returns-in-Operand c =
    let S : ConditionSpot → Type 0 = λ s. StepsCondition (AtConditionSpot s c.args.self.now.groups c.args.self.now.pending) (CompletesCondition c.at_operand.new.self) c.args.token.now c.in_ok-step-in-Operand.step in
    subst S (sym (sym c.replace.ensures.value ∙ c.in-Operand.is)) c.in_ok-step-in-Operand.ensures

pub returns-in-Primary : goal.returns-in-Primary
returns-in-Primary c =
    let S : ConditionSpot → Type 0 = λ s. StepsCondition (AtConditionSpot s c.args.self.now.groups c.args.self.now.pending) (CompletesCondition c.at_primary.new.self) c.args.token.now c.in_ok-step-in-Primary.step in
    subst S (sym (sym c.replace.ensures.value ∙ c.in-Primary.is)) c.in_ok-step-in-Primary.ensures

pub returns-in-Whole : goal.returns-in-Whole
returns-in-Whole c =
    let S : ConditionSpot → Type 0 = λ s. StepsCondition (AtConditionSpot s c.args.self.now.groups c.args.self.now.pending) (CompletesCondition c.behind_whole.new.self) c.args.token.now c.in_ok-step-in-Whole.step in
    subst S (sym (sym c.replace.ensures.value ∙ c.in-Whole.is)) c.in_ok-step-in-Whole.ensures
