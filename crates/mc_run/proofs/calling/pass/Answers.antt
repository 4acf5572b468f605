use Rattle.std.proofs.Common.{List, subst}
use Rattle.std.specs.Prelude.{slice_get}
use Rattle.mc_flow.specs.Heap.Choices.{Choice}
use Rattle.mc_flow.specs.Heap.Heap.{Heap}
use Rattle.mc_semantics.specs.Steps.{arguments}
use Rattle.mc_semantics.specs.Resolved.Steps.{AfterArguments}
use Rattle.mc_semantics.specs.Resolved.Views.{call_of}
use Rattle.mc_run_values.specs.Tasks.Left.{target_of}
use Rattle.mc_run_values.specs.declared.tasks.work.Work.{Work}
use Rattle.mc_run_values.specs.Tasks.Going.{tasks_of, values_of}
use Rattle.mc_run.specs.Models.{config_of, program_of}
use Rattle.mc_run.specs.Steps.{Comes}
use Rattle.mc_run.proofs.Passing.{passed_on, passing_faults, passing_refused}
use Rattle.mc_run.proofs.calling.pass.Goals as goal

pub returns-in_ok-stepped-in-Values : goal.returns-in_ok-stepped-in-Values
returns-in_ok-stepped-in-Values c =
    let answer = rw (c.in-Values.is, c.as_slice.ensures.value) at c.in_ok-values.ensures.answer in
    let p = program_of c.args.program in
    passed_on c.args.program.structs.now p (values_of c.args.machine.now.work) c.args.machine.now.heap (call_of c.args.call.now) (target_of c.args.target) c.args.place (tasks_of c.args.machine.now.work) c.in-Values.values c.in_ok-stepped-in-Values.stepped (config_of c.begin.new.machine) c.args.script.now c.evaluate_all.new.script answer (
    let P : Work → Heap → Type 0 = λ w heap. (choices : List Choice) → Comes c.in_ok-stepped-in-Values.stepped (config_of c.begin.new.machine) choices (λ r. AfterArguments (record { values = values_of w; heap = heap }) (slice_get p.functions c.args.call.now.function) (target_of c.args.target) c.args.place (tasks_of w) (arguments c.in-Values.values.items choices) r) in
    let moved : P c.evaluate_all.new.self.work c.evaluate_all.new.self.heap = rw c.as_slice-in-Values.ensures.value at c.in_ok-stepped-in-Values.ensures in
    subst (λ (heap : Heap). P c.args.machine.now.work heap) c.in_ok-values.ensures.heap (subst (λ (w : Work). P w c.evaluate_all.new.self.heap) c.in_ok-values.ensures.work moved)
    )

pub returns-in-Fault : goal.returns-in-Fault
returns-in-Fault c =
    let answer = rw (c.in-Fault.is, c.as_slice.ensures.value) at c.in_ok-values.ensures.answer in
    passing_faults c.args.program.structs.now (program_of c.args.program) (values_of c.args.machine.now.work) c.args.machine.now.heap (call_of c.args.call.now) (target_of c.args.target) c.args.place (tasks_of c.args.machine.now.work) c.in-Fault.kind (config_of c.evaluate_all.new.self) c.args.script.now c.evaluate_all.new.script answer

pub returns-in-Unanswered : goal.returns-in-Unanswered
returns-in-Unanswered c =
    let answer = rw (c.in-Unanswered.is, c.as_slice.ensures.value) at c.in_ok-values.ensures.answer in
    passing_refused c.args.program.structs.now (program_of c.args.program) (values_of c.args.machine.now.work) c.args.machine.now.heap (call_of c.args.call.now) (target_of c.args.target) c.args.place (tasks_of c.args.machine.now.work) c.in-Unanswered.why (config_of c.evaluate_all.new.self) c.args.script.now c.evaluate_all.new.script answer
