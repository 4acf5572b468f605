use Rattle.std.proofs.Common.{subst}
use Rattle.mc_c_parse_expr.specs.Expressions.{CompletesExpression, StepsExpression}
use Rattle.mc_c_parse_simple.proofs.Phrases.{finds_along, then_finds, then_stuck, ended_finds}
use Rattle.mc_c_parse_simple.proofs.Rights.{as_takes}
use Rattle.mc_c_parse_simple.proofs.right.in_sum.Goals as goal

pub returns-in_ok-reader-in-Taken : goal.returns-in_ok-reader-in-Taken
returns-in_ok-reader-in-Taken c = λ aliases. rw c.in_ok-reader-in-Taken.ensures.ok (as_takes (subst (λ s. StepsExpression (CompletesExpression c.args.reader) (CompletesExpression c.step.new.self) c.args.token.now s) c.in-Taken.is c.in_ok-step.ensures))

pub returns-in-Found : goal.returns-in-Found
returns-in-Found c = λ aliases. finds_along (then_finds (subst (λ s. StepsExpression (CompletesExpression c.args.reader) (CompletesExpression c.step.new.self) c.args.token.now s) c.in-Found.is c.in_ok-step.ensures)) (ended_finds _)

pub returns-in-Stuck : goal.returns-in-Stuck
returns-in-Stuck c = λ aliases. then_stuck (subst (λ s. StepsExpression (CompletesExpression c.args.reader) (CompletesExpression c.step.new.self) c.args.token.now s) c.in-Stuck.is c.in_ok-step.ensures)
