use Rattle.std.proofs.Common.{refl}
use Rattle.mc_run_values.specs.Script.Models.{choice}
use Rattle.mc_semantics.specs.Waiting.Requests.{an_address}
use Rattle.mc_run_values.proofs.ValuesLemmas.Answering.{address_added, choice_refused, unreadable_refused}
use Rattle.mc_run_values.proofs.values.asking.allocate.Goals as goal

pub returns-in-Unreadable : goal.returns-in-Unreadable
returns-in-Unreadable c =
    let h = rw c.in-Unreadable.is at c.in_ok-ask.ensures in
    (unreadable_refused c.args.structs.now (an_address c.args.heap.now) c.args.script.now c.ask.new.self h, refl)

pub returns-in-Some : goal.returns-in-Some
returns-in-Some c =
    let h = rw c.in-Choice.is at c.in_ok-ask.ensures in
    address_added c.args.structs.now c.args.shape.0 c.args.fields c.args.heap.now c.add_at.new.heap c.in-Some.address c.in_ok-answer-in-Some.answer c.args.script.now c.ask.new.self (choice c.in-Choice.choice) h c.in-Some.ensures.0 c.in_ok-answer-in-Some.ensures

pub returns : goal.returns
returns c =
    let h = rw c.in-Choice.is at c.in_ok-ask.ensures in
    (choice_refused c.args.structs.now (an_address c.args.heap.now) c.args.script.now c.ask.new.self (choice c.in-Choice.choice) h (c.in-None.ensures c.args.heap.now), refl)
