use Rattle.std.proofs.Common.{subst}
use Rattle.mc_c_parse_simple.proofs.Phrases.{takes_to, then_moves, then_closes, then_stuck}
use Rattle.mc_c_parse_body.specs.Lines.{CompletesLine, IsLineStep}
use Rattle.mc_c_parse_body.proofs.inner.in_line.Goals as goal

pub returns-in-Taken : goal.returns-in-Taken
returns-in-Taken c = λ purpose line is aliases e. rw (c.requires.ready, c.in-Line.is) (then_moves (subst (λ s. IsLineStep (CompletesLine aliases c.in-Line.inner) (CompletesLine aliases c.step.new.self) c.args.token.now s) c.in-Taken.is (c.in_ok-step-in-Line.ensures aliases e)))

pub returns-in-Closed : goal.returns-in-Closed
returns-in-Closed c = λ purpose line is aliases e. rw c.in-Line.is (rw c.behind_line.ensures.step (takes_to (then_closes (subst (λ s. IsLineStep (CompletesLine aliases c.in-Line.inner) (CompletesLine aliases c.step.new.self) c.args.token.now s) c.in-Closed.is (c.in_ok-step-in-Line.ensures aliases e))) (c.behind_line.ensures.same aliases)))

pub returns-in-Stuck : goal.returns-in-Stuck
returns-in-Stuck c = λ purpose line is aliases e. rw c.in-Line.is (then_stuck (subst (λ s. IsLineStep (CompletesLine aliases c.in-Line.inner) (CompletesLine aliases c.step.new.self) c.args.token.now s) c.in-Stuck.is (c.in_ok-step-in-Line.ensures aliases e)))

pub returns-in_default : goal.returns-in_default
returns-in_default c = λ purpose line is aliases e. absurd (c.in_default.not-Line purpose line is)
