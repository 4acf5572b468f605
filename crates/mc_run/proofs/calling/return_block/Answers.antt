use Rattle.std.proofs.Common.{◌≡◌, ◌∙◌, ℤ, Option, Some, ap, pos}
use Rattle.mc_semantics.specs.Resolved.Steps.{gone_back, returning}
use Rattle.mc_run_values.specs.Tasks.Going.{tasks_of, values_of}
use Rattle.mc_run.specs.declared.outcome.Stepped.TheVariants.{Goes}
use Rattle.mc_run.proofs.Allocating.{block_made, block_refused, small_address}
use Rattle.mc_run.proofs.Changing.{at_config}
use Rattle.mc_run.proofs.Deciding.{goes_back}
use Rattle.mc_run.proofs.calling.return_block.Goals as goal

pub pointer_at-requires : goal.pointer_at-requires
pointer_at-requires c =
    let answer = rw c.in-Address.is at c.in_ok-address.ensures in
    small_address c.args.machine.now.heap c.in-Address.address answer.1

pub returns-in_ok-go_back-in-Address : goal.returns-in_ok-go_back-in-Address
returns-in_ok-go_back-in-Address c =
    let answer = rw c.in-Address.is at c.in_ok-address.ensures in
    let before = c.args.machine.now in
    let work = c.go_back.new.self in
    block_made c.args.program.structs.now before.heap c.allocate.new.heap c.args.shape.0 c.args.fields
    (λ v heap left other. other ≡ gone_back heap (tasks_of before.work) (Some v) left)
    c.in-Address.address Goes (at_config (tasks_of work) (values_of work) c.allocate.new.heap) c.args.script.now c.allocate.new.script answer (λ choices.
    goes_back (tasks_of before.work) (tasks_of work) (values_of work) c.allocate.new.heap (Some (pos c.in-Address.address)) choices
    (c.in_ok-go_back-in-Address.ensures ∙ ap (λ (v : Option ℤ). returning (tasks_of before.work) v) c.pointer_at.ensures))

pub returns-in-Unanswered : goal.returns-in-Unanswered
returns-in-Unanswered c =
    let answer = rw c.in-Unanswered.is at c.in_ok-address.ensures in
    let before = c.args.machine.now in
    block_refused c.args.program.structs.now before.heap c.allocate.new.heap c.args.shape.0 c.args.fields
    (λ v heap left other. other ≡ gone_back heap (tasks_of before.work) (Some v) left)
    c.in-Unanswered.why (at_config (tasks_of before.work) (values_of before.work) before.heap) c.args.script.now c.allocate.new.script answer
