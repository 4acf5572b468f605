use Rattle.std.proofs.Common.{subst}
use Rattle.mc_c_parse_expr.specs.Expressions.{CompletesExpression, StepsExpression}
use Rattle.mc_c_parse_simple.proofs.Phrases.{takes_more, then_moves, then_finds, then_stuck, then_same_at}
use Rattle.mc_c_parse_simple.proofs.Rights.{right_step_along, parens_takes}
use Rattle.mc_c_parse_simple.proofs.right.in_parens.Goals as goal

pub returns-in-Taken : goal.returns-in-Taken
returns-in-Taken c = λ aliases. takes_more (then_moves (parens_takes _ (subst (λ s. StepsExpression (CompletesExpression c.args.reader.value) (CompletesExpression c.step.new.self) c.args.token.now s) c.in-Taken.is (rw c.deref_mut.ensures.value at c.in_ok-step.ensures))))

pub returns-in_ok-step-in-Found : goal.returns-in_ok-step-in-Found
returns-in_ok-step-in-Found c = λ aliases. right_step_along aliases _ (then_same_at (then_finds (subst (λ s. StepsExpression (CompletesExpression c.args.reader.value) (CompletesExpression c.step.new.self) c.args.token.now s) c.in-Found.is (rw c.deref_mut.ensures.value at c.in_ok-step.ensures)))) (c.in_ok-step-in-Found.ensures aliases)

pub returns-in-Stuck : goal.returns-in-Stuck
returns-in-Stuck c = λ aliases. then_stuck (then_stuck (subst (λ s. StepsExpression (CompletesExpression c.args.reader.value) (CompletesExpression c.step.new.self) c.args.token.now s) c.in-Stuck.is (rw c.deref_mut.ensures.value at c.in_ok-step.ensures)))
