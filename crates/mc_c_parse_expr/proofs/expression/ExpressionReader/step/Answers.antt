use Rattle.std.proofs.Common.{◌∙◌, subst, sym}
use Rattle.mc_c_parse_expr.specs.declared.expression.Spot.{Spot}
use Rattle.mc_c_parse_expr.specs.Expressions.{AtSpot, CompletesExpression, StepsExpression}
use Rattle.mc_c_parse_expr.proofs.expression.ExpressionReader.step.Goals as goal

pub returns-in_ok-step-in-Operand : goal.returns-in_ok-step-in-Operand
returns-in_ok-step-in-Operand c =
    let S : Spot → Type 0 = λ s. StepsExpression (AtSpot s c.args.self.now.groups c.args.self.now.pending) (CompletesExpression c.at_operand.new.self) c.args.token.now c.in_ok-step-in-Operand.step in
    subst S (sym (sym c.replace.ensures.value ∙ c.in-Operand.is)) c.in_ok-step-in-Operand.ensures

pub returns-in_ok-step-in-Primary : goal.returns-in_ok-step-in-Primary
returns-in_ok-step-in-Primary c =
    let S : Spot → Type 0 = λ s. StepsExpression (AtSpot s c.args.self.now.groups c.args.self.now.pending) (CompletesExpression c.at_primary.new.self) c.args.token.now c.in_ok-step-in-Primary.step in
    subst S (sym (sym c.replace.ensures.value ∙ c.in-Primary.is)) c.in_ok-step-in-Primary.ensures

pub returns-in_ok-step-in-Unary : goal.returns-in_ok-step-in-Unary
returns-in_ok-step-in-Unary c =
    let S : Spot → Type 0 = λ s. StepsExpression (AtSpot s c.args.self.now.groups c.args.self.now.pending) (CompletesExpression c.behind_unary.new.self) c.args.token.now c.in_ok-step-in-Unary.step in
    subst S (sym (sym c.replace.ensures.value ∙ c.in-Unary.is)) c.in_ok-step-in-Unary.ensures
