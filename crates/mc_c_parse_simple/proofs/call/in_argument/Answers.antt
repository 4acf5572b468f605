use Rattle.std.proofs.Common.{subst}
use Rattle.mc_c_parse_expr.specs.Expressions.{CompletesExpression, StepsExpression}
use Rattle.mc_c_parse_simple.proofs.Phrases.{then_takes, then_stuck}
use Rattle.mc_c_parse_simple.proofs.Calls.{arguments_end, argument_found}
use Rattle.mc_c_parse_simple.proofs.call.in_argument.Goals as goal

pub returns-in-Taken : goal.returns-in-Taken
returns-in-Taken c = then_takes (subst (λ s. StepsExpression (CompletesExpression c.args.reader.value) (CompletesExpression c.step.new.self) c.args.token.now s) c.in-Taken.is (rw c.deref_mut.ensures.value at c.in_ok-step.ensures)) (λ x tokens rest y n marks. absurd (arguments_end _ _ n marks))

pub returns-in_ok-step-in-Found : goal.returns-in_ok-step-in-Found
returns-in_ok-step-in-Found c = argument_found _ _ _ _ _ c.in_ok-push-in-Found.ensures.items (subst (λ s. StepsExpression (CompletesExpression c.args.reader.value) (CompletesExpression c.step.new.self) c.args.token.now s) c.in-Found.is (rw c.deref_mut.ensures.value at c.in_ok-step.ensures)) c.in_ok-step-in-Found.ensures

pub returns-in-Stuck : goal.returns-in-Stuck
returns-in-Stuck c = then_stuck (subst (λ s. StepsExpression (CompletesExpression c.args.reader.value) (CompletesExpression c.step.new.self) c.args.token.now s) c.in-Stuck.is (rw c.deref_mut.ensures.value at c.in_ok-step.ensures))
