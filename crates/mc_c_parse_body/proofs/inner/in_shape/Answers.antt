use Rattle.std.proofs.Common.{subst}
use Rattle.mc_c_parse_simple.proofs.Phrases.{then_moves, then_closes, then_stuck}
use Rattle.mc_c_parse_body.specs.Shapes.{CompletesShape, IsShapeStep}
use Rattle.mc_c_parse_body.proofs.inner.in_shape.Goals as goal

pub returns-in-Taken : goal.returns-in-Taken
returns-in-Taken c = λ shape is aliases. rw (c.requires.ready, c.in-Shape.is) (then_moves (subst (λ s. IsShapeStep (CompletesShape c.in-Shape.inner) c.args.token.now s) c.in-Taken.is (rw c.replace-shape.ensures.value at c.in_ok-step-in-Shape.ensures)))

pub returns-in-Closed : goal.returns-in-Closed
returns-in-Closed c = λ shape is aliases. rw c.in-Shape.is (then_closes (subst (λ s. IsShapeStep (CompletesShape c.in-Shape.inner) c.args.token.now s) c.in-Closed.is (rw c.replace-shape.ensures.value at c.in_ok-step-in-Shape.ensures)))

pub returns-in-Stuck : goal.returns-in-Stuck
returns-in-Stuck c = λ shape is aliases. rw c.in-Shape.is (then_stuck (subst (λ s. IsShapeStep (CompletesShape c.in-Shape.inner) c.args.token.now s) c.in-Stuck.is (rw c.replace-shape.ensures.value at c.in_ok-step-in-Shape.ensures)))

pub returns-in_default : goal.returns-in_default
returns-in_default c = λ shape is aliases. absurd (c.in_default.not-Shape shape is)
