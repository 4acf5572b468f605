use Rattle.std.proofs.Common.{◌≡◌}
use Rattle.mc_semantics.specs.Resolved.Steps.{after}
use Rattle.mc_semantics.specs.Resolved.Values.{assigned}
use Rattle.mc_semantics.specs.Resolved.Views.{expression_of}
use Rattle.mc_run_values.specs.Tasks.Going.{tasks_of, values_of}
use Rattle.mc_run.specs.Models.{config_of, goal_of, here_of}
use Rattle.mc_run.proofs.Changing.{same_config, value_changes}
use Rattle.mc_run.proofs.Using.{value_faults, value_refused}
use Rattle.mc_run.proofs.assigning.assign_expression.Goals as goal

pub returns-in-Value : goal.returns-in-Value
returns-in-Value c =
    let answer = rw c.in-Value.is at c.in_ok-value.ensures.answer in
    let before = c.args.machine.now in
    let between = c.evaluate.new.self in
    value_changes c.args.program.structs.now (tasks_of before.work) (tasks_of between.work) (tasks_of c.assign.new.machine.work) (values_of before.work) (values_of between.work) (values_of c.assign.new.machine.work)
    before.heap between.heap c.assign.new.machine.heap (expression_of c.args.right.now) c.args.place (λ values heap v. assigned values heap (goal_of c.args.goal) v) c.in-Value.value c.settled.result c.assign.result c.args.script.now c.evaluate.new.script answer (same_config between.work before.work between.heap before.heap c.in_ok-value.ensures.work c.in_ok-value.ensures.heap) c.settled.ensures c.assign.ensures.tasks c.assign.ensures.change

pub returns-in-Fault : goal.returns-in-Fault
returns-in-Fault c =
    let answer = rw c.in-Fault.is at c.in_ok-value.ensures.answer in
    value_faults c.args.program.structs.now (here_of c.args.machine.now) (expression_of c.args.right.now) c.args.place (λ v left other. other ≡ after (tasks_of c.args.machine.now.work) c.args.place left (assigned (here_of c.args.machine.now).values (here_of c.args.machine.now).heap (goal_of c.args.goal) v)) c.in-Fault.kind (config_of c.evaluate.new.self) c.args.script.now c.evaluate.new.script answer

pub returns-in-Unanswered : goal.returns-in-Unanswered
returns-in-Unanswered c =
    let answer = rw c.in-Unanswered.is at c.in_ok-value.ensures.answer in
    value_refused c.args.program.structs.now (here_of c.args.machine.now) (expression_of c.args.right.now) c.args.place (λ v left other. other ≡ after (tasks_of c.args.machine.now.work) c.args.place left (assigned (here_of c.args.machine.now).values (here_of c.args.machine.now).heap (goal_of c.args.goal) v)) c.in-Unanswered.why (config_of c.evaluate.new.self) c.args.script.now c.evaluate.new.script answer
