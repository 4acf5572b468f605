use Rattle.std.proofs.Common.{◌≡◌, List, subst}
use Rattle.mc_flow.specs.Heap.Choices.{Choice}
use Rattle.mc_flow.specs.Heap.Heap.{Heap}
use Rattle.mc_run_values.specs.declared.tasks.work.Work.{Work}
use Rattle.mc_run.specs.Steps.{Comes}
use Rattle.mc_semantics.specs.Resolved.Steps.{returned_value}
use Rattle.mc_semantics.specs.Resolved.Views.{expression_of}
use Rattle.mc_run_values.specs.Tasks.Going.{tasks_of}
use Rattle.mc_run.specs.Models.{config_of, here_of}
use Rattle.mc_run.proofs.Using.{value_faults, value_refused, value_used}
use Rattle.mc_run.proofs.calling.return_expression.Goals as goal

pub returns-in_ok-stepped-in-Value : goal.returns-in_ok-stepped-in-Value
returns-in_ok-stepped-in-Value c =
    let answer = rw c.in-Value.is at c.in_ok-value.ensures.answer in
    value_used c.args.program.structs.now (here_of c.args.machine.now) (expression_of c.args.right.now) c.args.place (λ v left other. other ≡ returned_value (here_of c.args.machine.now).heap (tasks_of c.args.machine.now.work) c.args.place left v) c.in-Value.value c.in_ok-stepped-in-Value.stepped (config_of c.go_back.new.machine) c.args.script.now c.evaluate.new.script answer (
    let P : Work → Heap → Type 0 = λ w heap. (choices : List Choice) → Comes c.in_ok-stepped-in-Value.stepped (config_of c.go_back.new.machine) choices (λ r. r ≡ returned_value heap (tasks_of w) c.args.place choices c.in-Value.value) in
    let moved : P c.evaluate.new.self.work c.evaluate.new.self.heap = c.in_ok-stepped-in-Value.ensures in
    subst (λ (heap : Heap). P c.args.machine.now.work heap) c.in_ok-value.ensures.heap (subst (λ (w : Work). P w c.evaluate.new.self.heap) c.in_ok-value.ensures.work moved)
    )

pub returns-in-Fault : goal.returns-in-Fault
returns-in-Fault c =
    let answer = rw c.in-Fault.is at c.in_ok-value.ensures.answer in
    value_faults c.args.program.structs.now (here_of c.args.machine.now) (expression_of c.args.right.now) c.args.place (λ v left other. other ≡ returned_value (here_of c.args.machine.now).heap (tasks_of c.args.machine.now.work) c.args.place left v) c.in-Fault.kind (config_of c.evaluate.new.self) c.args.script.now c.evaluate.new.script answer

pub returns-in-Unanswered : goal.returns-in-Unanswered
returns-in-Unanswered c =
    let answer = rw c.in-Unanswered.is at c.in_ok-value.ensures.answer in
    value_refused c.args.program.structs.now (here_of c.args.machine.now) (expression_of c.args.right.now) c.args.place (λ v left other. other ≡ returned_value (here_of c.args.machine.now).heap (tasks_of c.args.machine.now.work) c.args.place left v) c.in-Unanswered.why (config_of c.evaluate.new.self) c.args.script.now c.evaluate.new.script answer
