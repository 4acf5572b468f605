use Rattle.std.proofs.Common.{subst, refl}
use Rattle.std.specs.Prelude.{codes}
use Rattle.mc_c_parse_simple.specs.Simples.{CompletesSimple, IsSimpleStep}
use Rattle.mc_c_parse_simple.proofs.Phrases.{then_finds, then_stuck}
use Rattle.mc_c_parse_body.proofs.Tokens.{first_is, then_rejects, if_ok_map}
use Rattle.mc_c_parse_body.proofs.StateTurns.{body_step_along}
use Rattle.mc_c_parse_body.proofs.inner.in_last.Goals as goal

pub returns-in-Taken : goal.returns-in-Taken
returns-in-Taken c = λ place start condition last is aliases e. rw (c.requires.ready, c.in-Last.is) (then_rejects (codes ")") refl (λ x tokens rest y h. first_is h) (rw c.deref_mut.ensures.value at (subst (λ s. IsSimpleStep (CompletesSimple aliases c.deref_mut.result.now) (CompletesSimple aliases c.step.new.self) c.args.token.now s) c.in-Taken.is (c.in_ok-step-in-Last.ensures aliases e))))

pub returns-in_ok-head-in-Found : goal.returns-in_ok-head-in-Found
returns-in_ok-head-in-Found c = λ place start condition last is aliases e. rw c.in-Last.is (if_ok_map c.enter.result (λ step h. body_step_along aliases c.enter.new.reader step (then_finds (rw c.deref_mut.ensures.value at (subst (λ s. IsSimpleStep (CompletesSimple aliases c.deref_mut.result.now) (CompletesSimple aliases c.step.new.self) c.args.token.now s) c.in-Found.is (c.in_ok-step-in-Last.ensures aliases e)))) h) (rw (c.in_ok-head-in-Found.ensures.ok, c.replace.ensures.value, c.replace-in-Found.ensures.value) at (c.enter.ensures aliases)))

pub returns-in-Stuck : goal.returns-in-Stuck
returns-in-Stuck c = λ place start condition last is aliases e. rw c.in-Last.is (then_stuck (rw c.deref_mut.ensures.value at (subst (λ s. IsSimpleStep (CompletesSimple aliases c.deref_mut.result.now) (CompletesSimple aliases c.step.new.self) c.args.token.now s) c.in-Stuck.is (c.in_ok-step-in-Last.ensures aliases e))))

pub returns-in_default : goal.returns-in_default
returns-in_default c = λ place start condition last is aliases e. absurd (c.in_default.not-Last place start condition last is)
