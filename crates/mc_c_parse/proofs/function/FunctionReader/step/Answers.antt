use Rattle.mc_c_parse_body.specs.Bodies.{CompletesBody}
use Rattle.mc_c_parse.proofs.FunctionLemmas.{not_in_body}
use Rattle.mc_c_parse.proofs.Threads.{then_takes, then_gives, then_stuck}
use Rattle.mc_c_parse.proofs.function.FunctionReader.step.Goals as goal

pub returns-in-Taken : goal.returns-in-Taken
returns-in-Taken c = λ aliases known. rw c.in-Body.is (then_takes (rw c.in-Taken.is at (rw c.deref_mut.ensures.value at (c.in_ok-step-in-Body.ensures aliases known))))

pub returns-in_ok-with_body-in-Closed : goal.returns-in_ok-with_body-in-Closed
returns-in_ok-with_body-in-Closed c = λ aliases known. rw (c.in-Body.is, c.in_ok-with_body-in-Closed.ensures) (then_gives _ (rw c.in-Closed.is at (rw c.deref_mut.ensures.value at (c.in_ok-step-in-Body.ensures aliases known))))

pub returns-in-Stuck : goal.returns-in-Stuck
returns-in-Stuck c = λ aliases known. rw c.in-Body.is (then_stuck (CompletesBody aliases c.in-Body.reader.value) _ {token = c.args.token.now} (rw c.in-Stuck.is at (rw c.deref_mut.ensures.value at (c.in_ok-step-in-Body.ensures aliases known))))

pub step_before_body-requires : goal.step_before_body-requires
step_before_body-requires c = record { class = c.requires; before = not_in_body c.args.self.now c.in_default.not-Body }
