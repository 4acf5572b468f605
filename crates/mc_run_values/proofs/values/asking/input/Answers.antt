use Rattle.std.proofs.Common.{◌≡◌, ◌∙◌, List, refl, sym}
use Rattle.mc_flow.specs.Heap.Choices.{Choice}
use Rattle.mc_run_values.specs.Script.Models.{choice}
use Rattle.mc_semantics.specs.Waiting.Requests.{an_input}
use Rattle.mc_run_values.specs.declared.values.refusal.Refusal.TheVariants.{Unreadable}
use Rattle.mc_run_values.proofs.ValuesLemmas.Answering.{input_answered, input_refused, refused_here, unreadable_refused}
use Rattle.mc_run_values.proofs.values.asking.input.Goals as goal

pub returns-in-Unreadable : goal.returns-in-Unreadable
returns-in-Unreadable c =
    let h = rw c.in-Unreadable.is at c.in_ok-ask.ensures in
    refused_here c.args.structs.now an_input c.args.script.now c.ask.new.self Unreadable (λ (choices left : List Choice). left ≡ choices) (λ rest. refl) (unreadable_refused c.args.structs.now an_input c.args.script.now c.ask.new.self h)

pub returns-then-is_some : goal.returns-then-is_some
returns-then-is_some c =
    let h = rw c.in-Choice.is at c.in_ok-ask.ensures in
    input_answered c.args.structs.now c.args.script.now c.ask.new.self (choice c.in-Choice.choice) c.input_in-value.result h c.input_in-value.ensures (sym c.is_some.ensures ∙ c.if-is_some.true)

pub returns : goal.returns
returns c =
    let h = rw c.in-Choice.is at c.in_ok-ask.ensures in
    input_refused c.args.structs.now c.args.script.now c.ask.new.self (choice c.in-Choice.choice) c.input_in-value.result h c.input_in-value.ensures (sym c.is_some.ensures ∙ c.if-is_some.false)
