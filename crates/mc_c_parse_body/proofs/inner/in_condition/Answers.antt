use Rattle.std.proofs.Common.{refl, subst}
use Rattle.mc_c_parse_expr.specs.Conditions.{CompletesCondition, StepsCondition}
use Rattle.mc_c_parse_simple.proofs.Phrases.{then_finds, then_stuck}
use Rattle.mc_c_parse_body.specs.Frames.{Around}
use Rattle.mc_c_parse_body.proofs.Tokens.{if_ok_map}
use Rattle.mc_c_parse_body.proofs.StateTurns.{body_step_along, condition_takes}
use Rattle.mc_c_parse_body.proofs.inner.in_condition.Goals as goal

pub returns-in-Taken : goal.returns-in-Taken
returns-in-Taken c = λ purpose condition is aliases. rw (c.requires.ready, c.in-Condition.is) (condition_takes aliases c.in-Condition.field-0 (Around aliases c.args.reader.now.nest) (rw c.deref_mut.ensures.value at (subst (λ s. StepsCondition (CompletesCondition c.deref_mut.result.now) (CompletesCondition c.step.new.self) c.args.token.now s) c.in-Taken.is (c.in_ok-step-in-Condition.ensures))))

pub returns-in-Found : goal.returns-in-Found
returns-in-Found c = λ purpose condition is aliases. rw c.in-Condition.is (if_ok_map c.behind_condition.result (λ step h. body_step_along aliases c.behind_condition.new.reader step (then_finds (rw c.deref_mut.ensures.value at (subst (λ s. StepsCondition (CompletesCondition c.deref_mut.result.now) (CompletesCondition c.step.new.self) c.args.token.now s) c.in-Found.is (c.in_ok-step-in-Condition.ensures)))) h) (c.behind_condition.ensures c.in-Condition.field-0 _ refl aliases))

pub returns-in-Stuck : goal.returns-in-Stuck
returns-in-Stuck c = λ purpose condition is aliases. rw c.in-Condition.is (then_stuck (rw c.deref_mut.ensures.value at (subst (λ s. StepsCondition (CompletesCondition c.deref_mut.result.now) (CompletesCondition c.step.new.self) c.args.token.now s) c.in-Stuck.is (c.in_ok-step-in-Condition.ensures))))

pub returns-in_default : goal.returns-in_default
returns-in_default c = λ purpose condition is aliases. absurd (c.in_default.not-Condition purpose condition is)
