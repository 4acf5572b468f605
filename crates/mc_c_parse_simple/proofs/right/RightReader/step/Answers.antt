use Rattle.std.proofs.Common.{subst}
use Rattle.mc_c_parse_expr.specs.Expressions.{CompletesExpression, StepsExpression}
use Rattle.mc_c_parse_simple.proofs.Phrases.{finds_along, then_finds, then_stuck, ended_finds}
use Rattle.mc_c_parse_simple.proofs.Rights.{as_takes, not_in_sum}
use Rattle.mc_c_parse_simple.proofs.right.RightReader.step.Goals as goal

pub returns-in-Taken : goal.returns-in-Taken
returns-in-Taken c = λ aliases e. rw c.in-Sum.is (as_takes (subst (λ s. StepsExpression (CompletesExpression c.in-Sum.reader.value) (CompletesExpression c.step.new.self) c.args.token.now s) c.in-Taken.is (rw c.deref_mut.ensures.value at c.in_ok-step-in-Sum.ensures)))

pub returns-in-Found : goal.returns-in-Found
returns-in-Found c = λ aliases e. rw c.in-Sum.is (finds_along (then_finds (subst (λ s. StepsExpression (CompletesExpression c.in-Sum.reader.value) (CompletesExpression c.step.new.self) c.args.token.now s) c.in-Found.is (rw c.deref_mut.ensures.value at c.in_ok-step-in-Sum.ensures))) (ended_finds _))

pub returns-in-Stuck : goal.returns-in-Stuck
returns-in-Stuck c = λ aliases e. rw c.in-Sum.is (then_stuck (subst (λ s. StepsExpression (CompletesExpression c.in-Sum.reader.value) (CompletesExpression c.step.new.self) c.args.token.now s) c.in-Stuck.is (rw c.deref_mut.ensures.value at c.in_ok-step-in-Sum.ensures)))

pub step_beside_sums-requires : goal.step_beside_sums-requires
step_beside_sums-requires c = record { class = c.requires; beside = not_in_sum c.args.self.now.state c.in_default.not-Sum }
