use Rattle.std.proofs.Common.{subst}
use Rattle.mc_c_syntax.specs.Ast.Grammar.{IsSum}
use Rattle.mc_c_parse_expr.specs.declared.expression.ExpressionStep.{ExpressionStep}
use Rattle.mc_c_parse_expr.specs.Expressions.{CompletesExpression, StepsExpression, expression_marks}
use Rattle.mc_c_parse_expr.specs.Conditions.{MaybeCompared, BehindCondition, condition_marks}
use Rattle.mc_c_parse_expr.proofs.Turns.{same_at, same_takes, same_finds, turn_takes, turn_finds}
use Rattle.mc_c_parse_expr.proofs.Conditions.{sum_ends_at, steps_same}
use Rattle.mc_c_parse_expr.proofs.condition.ConditionReader.begin_sum.Goals as goal

pub returns-in-Taken : goal.returns-in-Taken
returns-in-Taken c =
    let P : ExpressionStep → Type 0 = StepsExpression (CompletesExpression c.new-reader.result) (CompletesExpression c.step.new.self) c.args.token.now in
    turn_takes expression_marks condition_marks (λ tokens rest e. IsSum e tokens rest) (CompletesExpression c.step.new.self) (λ e. MaybeCompared c.args.self.now.pending e (BehindCondition c.args.self.now.groups)) c.args.token.now (same_takes (same_at c.args.token.now c.new-reader.ensures) (subst P c.in-Taken.is c.in_ok-step.ensures)) (sum_ends_at c.args.self.now.groups c.args.self.now.pending c.args.token.now)

pub returns-in_ok-step-in-Found : goal.returns-in_ok-step-in-Found
returns-in_ok-step-in-Found c =
    let P : ExpressionStep → Type 0 = StepsExpression (CompletesExpression c.new-reader.result) (CompletesExpression c.step.new.self) c.args.token.now in
    steps_same _ _ (turn_finds (same_finds (same_at c.args.token.now c.new-reader.ensures) (subst P c.in-Found.is c.in_ok-step.ensures))) c.in_ok-step-in-Found.ensures
