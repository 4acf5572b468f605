use Rattle.std.proofs.Common.{subst, refl}
use Rattle.std.specs.Prelude.{codes}
use Rattle.mc_c_parse_simple.specs.Rights.{CompletesRight, IsRightStep}
use Rattle.mc_c_parse_simple.proofs.Phrases.{then_finds, then_stuck}
use Rattle.mc_c_parse_body.proofs.Tokens.{first_is, then_rejects}
use Rattle.mc_c_parse_body.proofs.StateTurns.{body_step_along}
use Rattle.mc_c_parse_body.proofs.inner.in_value.Goals as goal

pub returns-in-Taken : goal.returns-in-Taken
returns-in-Taken c = λ place value is aliases e. rw (c.requires.ready, c.in-Value.is) (then_rejects (codes ";") refl (λ x tokens rest y h. first_is h) (rw c.deref_mut.ensures.value at (subst (λ s. IsRightStep (CompletesRight aliases c.deref_mut.result.now) (CompletesRight aliases c.step.new.self) c.args.token.now s) c.in-Taken.is (c.in_ok-step-in-Value.ensures aliases e))))

pub returns-in-Found : goal.returns-in-Found
returns-in-Found c = λ place value is aliases e. rw c.in-Value.is (body_step_along aliases c.behind_value.new.reader c.behind_value.result (then_finds (rw c.deref_mut.ensures.value at (subst (λ s. IsRightStep (CompletesRight aliases c.deref_mut.result.now) (CompletesRight aliases c.step.new.self) c.args.token.now s) c.in-Found.is (c.in_ok-step-in-Value.ensures aliases e)))) (c.behind_value.ensures aliases))

pub returns-in-Stuck : goal.returns-in-Stuck
returns-in-Stuck c = λ place value is aliases e. rw c.in-Value.is (then_stuck (rw c.deref_mut.ensures.value at (subst (λ s. IsRightStep (CompletesRight aliases c.deref_mut.result.now) (CompletesRight aliases c.step.new.self) c.args.token.now s) c.in-Stuck.is (c.in_ok-step-in-Value.ensures aliases e))))

pub returns-in_default : goal.returns-in_default
returns-in_default c = λ place value is aliases e. absurd (c.in_default.not-Value place value is)
