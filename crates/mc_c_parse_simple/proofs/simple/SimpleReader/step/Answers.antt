use Rattle.std.proofs.Common.{subst}
use Rattle.mc_c_syntax.specs.Ast.Trees.{assign}
use Rattle.mc_c_syntax.specs.Ast.Views.{left_of}
use Rattle.mc_c_parse_expr.specs.Expressions.{CompletesExpression, StepsExpression}
use Rattle.mc_c_parse_simple.specs.Rights.{CompletesRight, IsRightStep}
use Rattle.mc_c_parse_simple.specs.Simples.{changed_by}
use Rattle.mc_c_parse_simple.proofs.Phrases.{then_stuck, made_takes, made_finds}
use Rattle.mc_c_parse_simple.proofs.Rights.{in_right}
use Rattle.mc_c_parse_simple.proofs.Simples.{not_in_value}
use Rattle.mc_c_parse_simple.proofs.simple.SimpleReader.step.Goals as goal

pub returns-in-Taken : goal.returns-in-Taken
returns-in-Taken c = λ aliases e. rw c.in-Assign.is (made_takes (assign (left_of c.in-Assign.left)) (λ h. h) (subst (λ s. IsRightStep (CompletesRight aliases c.in-Assign.reader) (CompletesRight aliases c.step.new.self) c.args.token.now s) c.in-Taken.is (c.in_ok-step-in-Assign.ensures aliases e)))

pub returns-in-Found : goal.returns-in-Found
returns-in-Found c = λ aliases e. rw (c.in-Assign.is, c.taken-left.ensures) (made_finds (assign (left_of c.in-Assign.left)) (subst (λ s. IsRightStep (CompletesRight aliases c.in-Assign.reader) (CompletesRight aliases c.step.new.self) c.args.token.now s) c.in-Found.is (c.in_ok-step-in-Assign.ensures aliases e)))

pub returns-in-Stuck : goal.returns-in-Stuck
returns-in-Stuck c = λ aliases e. rw c.in-Assign.is (then_stuck (subst (λ s. IsRightStep (CompletesRight aliases c.in-Assign.reader) (CompletesRight aliases c.step.new.self) c.args.token.now s) c.in-Stuck.is (c.in_ok-step-in-Assign.ensures aliases e)))

pub returns-in-Taken-2 : goal.returns-in-Taken-2
returns-in-Taken-2 c = λ aliases e. rw c.in-ChangeBy.is (made_takes (changed_by c.in-ChangeBy.change (left_of c.in-ChangeBy.left)) (in_right c.args.token.now) (subst (λ s. StepsExpression (CompletesExpression c.in-ChangeBy.reader.value) (CompletesExpression c.step-in-ChangeBy.new.self) c.args.token.now s) c.in-Taken-2.is (rw c.deref_mut.ensures.value at c.in_ok-step-in-ChangeBy.ensures)))

pub returns-in-Found-2 : goal.returns-in-Found-2
returns-in-Found-2 c = λ aliases e. rw (c.in-ChangeBy.is, c.changed_by-simple.ensures, c.taken-left-in-Found-2.ensures) (made_finds (changed_by c.in-ChangeBy.change (left_of c.in-ChangeBy.left)) (subst (λ s. StepsExpression (CompletesExpression c.in-ChangeBy.reader.value) (CompletesExpression c.step-in-ChangeBy.new.self) c.args.token.now s) c.in-Found-2.is (rw c.deref_mut.ensures.value at c.in_ok-step-in-ChangeBy.ensures)))

pub returns-in-Stuck-2 : goal.returns-in-Stuck-2
returns-in-Stuck-2 c = λ aliases e. rw c.in-ChangeBy.is (then_stuck (subst (λ s. StepsExpression (CompletesExpression c.in-ChangeBy.reader.value) (CompletesExpression c.step-in-ChangeBy.new.self) c.args.token.now s) c.in-Stuck-2.is (rw c.deref_mut.ensures.value at c.in_ok-step-in-ChangeBy.ensures)))

pub step_beside_values-requires : goal.step_beside_values-requires
step_beside_values-requires c = record { class = c.requires; beside = not_in_value c.args.self.now.state c.in_default.not-Assign c.in_default.not-ChangeBy }
