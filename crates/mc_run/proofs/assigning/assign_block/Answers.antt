use Rattle.std.proofs.Common.{◌≡◌, ◌∙◌, ℤ, Option, Some, ap, pos}
use Rattle.mc_semantics.specs.Resolved.Steps.{after}
use Rattle.mc_semantics.specs.Resolved.Values.{assigned}
use Rattle.mc_run_values.specs.Tasks.Going.{tasks_of, values_of}
use Rattle.mc_run.specs.Models.{config_of, goal_of}
use Rattle.mc_run.proofs.Allocating.{block_made, block_refused, small_address}
use Rattle.mc_run.proofs.Changing.{settles}
use Rattle.mc_run.proofs.assigning.assign_block.Goals as goal

pub pointer_at-requires : goal.pointer_at-requires
pointer_at-requires c =
    let answer = rw c.in-Address.is at c.in_ok-address.ensures in
    small_address c.args.machine.now.heap c.in-Address.address answer.1

pub returns-in-Address : goal.returns-in-Address
returns-in-Address c =
    let answer = rw c.in-Address.is at c.in_ok-address.ensures in
    let before = c.args.machine.now in
    let last = c.assign.new.machine in
    block_made c.args.program.structs.now before.heap c.allocate.new.heap c.args.shape.0 c.args.fields
    (λ v heap left other. other ≡ after (tasks_of before.work) c.args.place left (assigned (values_of before.work) heap (goal_of c.args.goal) (Some v)))
    c.in-Address.address c.settled.result (config_of last) c.args.script.now c.allocate.new.script answer (
    settles c.settled.result c.assign.result c.args.place (tasks_of before.work) (tasks_of last.work) (values_of last.work) last.heap
    (assigned (values_of before.work) c.allocate.new.heap (goal_of c.args.goal) (Some (pos c.in-Address.address))) c.settled.ensures c.assign.ensures.tasks
    (c.assign.ensures.change ∙ ap (λ (v : Option ℤ). assigned (values_of before.work) c.allocate.new.heap (goal_of c.args.goal) v) c.pointer_at.ensures)
    )

pub returns-in-Unanswered : goal.returns-in-Unanswered
returns-in-Unanswered c =
    let answer = rw c.in-Unanswered.is at c.in_ok-address.ensures in
    let before = c.args.machine.now in
    block_refused c.args.program.structs.now before.heap c.allocate.new.heap c.args.shape.0 c.args.fields
    (λ v heap left other. other ≡ after (tasks_of before.work) c.args.place left (assigned (values_of before.work) heap (goal_of c.args.goal) (Some v)))
    c.in-Unanswered.why (config_of before) c.args.script.now c.allocate.new.script answer
