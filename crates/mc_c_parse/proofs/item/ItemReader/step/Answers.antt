use Rattle.mc_c_parse.specs.Functions.{CompletesFunction}
use Rattle.mc_c_parse.proofs.ItemLemmas.{not_in_function}
use Rattle.mc_c_parse.proofs.Threads.{then_takes, then_gives, then_stuck}
use Rattle.mc_c_parse.proofs.item.ItemReader.step.Goals as goal

pub returns-in-Taken : goal.returns-in-Taken
returns-in-Taken c = λ aliases known. rw c.in-Function.is (then_takes (rw c.in-Taken.is at (c.in_ok-step-in-Function.ensures aliases known)))

pub returns-in_ok-item_of_function-in-Closed : goal.returns-in_ok-item_of_function-in-Closed
returns-in_ok-item_of_function-in-Closed c = λ aliases known. rw (c.in-Function.is, c.in_ok-item_of_function-in-Closed.ensures) (then_gives _ (rw c.in-Closed.is at (c.in_ok-step-in-Function.ensures aliases known)))

pub returns-in-Stuck : goal.returns-in-Stuck
returns-in-Stuck c = λ aliases known. rw c.in-Function.is (then_stuck (CompletesFunction aliases c.in-Function.reader) _ {token = c.args.token.now} (rw c.in-Stuck.is at (c.in_ok-step-in-Function.ensures aliases known)))

pub step_beside_functions-requires : goal.step_beside_functions-requires
step_beside_functions-requires c = record { class = c.requires; beside = not_in_function c.args.self.now c.in_default.not-Function }
