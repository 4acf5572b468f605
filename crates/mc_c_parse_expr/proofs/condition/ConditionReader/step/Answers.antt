use Rattle.std.proofs.Common.{subst, sym}
use Rattle.mc_c_syntax.specs.Ast.Trees.{compare}
use Rattle.mc_c_syntax.specs.Ast.Views.{expression_of}
use Rattle.mc_c_syntax.specs.Ast.Readers.{Takes, IsStuckAt}
use Rattle.mc_c_parse_expr.specs.declared.expression.ExpressionStep.{ExpressionStep}
use Rattle.mc_c_parse_expr.specs.declared.condition.ConditionSpot.{ConditionSpot}
use Rattle.mc_c_parse_expr.specs.Turns.{InTurn}
use Rattle.mc_c_parse_expr.specs.Expressions.{CompletesExpression, StepsExpression, expression_marks}
use Rattle.mc_c_parse_expr.specs.Conditions.{Joins, MaybeCompared, BehindCondition, AtConditionSpot, CompletesCondition, StepsCondition, condition_marks}
use Rattle.mc_c_parse_expr.proofs.Turns.{turn_takes, turn_finds, turn_stuck}
use Rattle.mc_c_parse_expr.proofs.Conditions.{sum_ends_at, compared_ends_at, steps_same}
use Rattle.mc_c_parse_expr.proofs.condition.ConditionReader.step.Goals as goal

pub returns-in-Taken : goal.returns-in-Taken
returns-in-Taken c =
    let P : ExpressionStep → Type 0 = StepsExpression (CompletesExpression c.in-Sum.reader) (CompletesExpression c.step.new.self) c.args.token.now in
    let S : ConditionSpot → Type 0 = λ s. Takes condition_marks (AtConditionSpot s c.args.self.now.groups c.args.self.now.pending) (InTurn (CompletesExpression c.step.new.self) (λ e. MaybeCompared c.args.self.now.pending e (BehindCondition c.args.self.now.groups))) c.args.token.now in
    subst S (sym c.in-Sum.is) (turn_takes expression_marks condition_marks (CompletesExpression c.in-Sum.reader) (CompletesExpression c.step.new.self) (λ e. MaybeCompared c.args.self.now.pending e (BehindCondition c.args.self.now.groups)) c.args.token.now (subst P c.in-Taken.is c.in_ok-step-in-Sum.ensures) (sum_ends_at c.args.self.now.groups c.args.self.now.pending c.args.token.now))

pub returns-in_ok-step-in-Found : goal.returns-in_ok-step-in-Found
returns-in_ok-step-in-Found c =
    let P : ExpressionStep → Type 0 = StepsExpression (CompletesExpression c.in-Sum.reader) (CompletesExpression c.step.new.self) c.args.token.now in
    let S : ConditionSpot → Type 0 = λ s. StepsCondition (AtConditionSpot s c.args.self.now.groups c.args.self.now.pending) (CompletesCondition c.behind_sum.new.self) c.args.token.now c.in_ok-step-in-Found.step in
    subst S (sym c.in-Sum.is) (steps_same _ _ (turn_finds (subst P c.in-Found.is c.in_ok-step-in-Sum.ensures)) c.in_ok-step-in-Found.ensures)

pub returns-in-Stuck : goal.returns-in-Stuck
returns-in-Stuck c =
    let P : ExpressionStep → Type 0 = StepsExpression (CompletesExpression c.in-Sum.reader) (CompletesExpression c.step.new.self) c.args.token.now in
    let S : ConditionSpot → Type 0 = λ s. IsStuckAt (AtConditionSpot s c.args.self.now.groups c.args.self.now.pending) c.args.token.now in
    subst S (sym c.in-Sum.is) (turn_stuck (subst P c.in-Stuck.is c.in_ok-step-in-Sum.ensures))

pub returns-in-Taken-2 : goal.returns-in-Taken-2
returns-in-Taken-2 c =
    let P : ExpressionStep → Type 0 = StepsExpression (CompletesExpression c.in-Compared.reader) (CompletesExpression c.step-in-Compared.new.self) c.args.token.now in
    let S : ConditionSpot → Type 0 = λ s. Takes condition_marks (AtConditionSpot s c.args.self.now.groups c.args.self.now.pending) (InTurn (CompletesExpression c.step-in-Compared.new.self) (λ b. Joins c.args.self.now.pending (compare c.in-Compared.field-0.mark (expression_of c.in-Compared.field-0.left) b) (BehindCondition c.args.self.now.groups))) c.args.token.now in
    subst S (sym c.in-Compared.is) (turn_takes expression_marks condition_marks (CompletesExpression c.in-Compared.reader) (CompletesExpression c.step-in-Compared.new.self) (λ b. Joins c.args.self.now.pending (compare c.in-Compared.field-0.mark (expression_of c.in-Compared.field-0.left) b) (BehindCondition c.args.self.now.groups)) c.args.token.now (subst P c.in-Taken-2.is c.in_ok-step-in-Compared.ensures) (compared_ends_at c.args.self.now.groups c.args.self.now.pending (compare c.in-Compared.field-0.mark (expression_of c.in-Compared.field-0.left)) c.args.token.now))

pub returns-in_ok-step-in-Found-2 : goal.returns-in_ok-step-in-Found-2
returns-in_ok-step-in-Found-2 c =
    let P : ExpressionStep → Type 0 = StepsExpression (CompletesExpression c.in-Compared.reader) (CompletesExpression c.step-in-Compared.new.self) c.args.token.now in
    let S : ConditionSpot → Type 0 = λ s. StepsCondition (AtConditionSpot s c.args.self.now.groups c.args.self.now.pending) (CompletesCondition c.behind_right.new.self) c.args.token.now c.in_ok-step-in-Found-2.step in
    subst S (sym c.in-Compared.is) (steps_same _ _ (turn_finds (subst P c.in-Found-2.is c.in_ok-step-in-Compared.ensures)) c.in_ok-step-in-Found-2.ensures)

pub returns-in-Stuck-2 : goal.returns-in-Stuck-2
returns-in-Stuck-2 c =
    let P : ExpressionStep → Type 0 = StepsExpression (CompletesExpression c.in-Compared.reader) (CompletesExpression c.step-in-Compared.new.self) c.args.token.now in
    let S : ConditionSpot → Type 0 = λ s. IsStuckAt (AtConditionSpot s c.args.self.now.groups c.args.self.now.pending) c.args.token.now in
    subst S (sym c.in-Compared.is) (turn_stuck (subst P c.in-Stuck-2.is c.in_ok-step-in-Compared.ensures))
