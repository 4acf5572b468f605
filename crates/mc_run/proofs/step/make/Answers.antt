use Rattle.std.proofs.Common.{refl}
use Rattle.mc_semantics.specs.Resolved.Views.{initial_of}
use Rattle.mc_run_values.specs.Tasks.Going.{tasks_of, values_of}
use Rattle.mc_run.specs.declared.outcome.End.TheVariants as ends
use Rattle.mc_run.specs.declared.outcome.Stepped.TheVariants as steps
use Rattle.mc_run.specs.Models.{config_of, here_of, program_of}
use Rattle.mc_run.proofs.Leaving.{leaves_no_question, leaves_no_step}
use Rattle.mc_run.proofs.Making.{made_alone, made_first, made_of}
use Rattle.mc_run.proofs.step.make.Goals as goal

pub returns-in-Done : goal.returns-in-Done
returns-in-Done c = λ tasks has. (
    let first = rw c.in-Done.is at has in
    made_alone c.args.program.structs.now (program_of c.args.program) (values_of c.args.machine.now.work) c.args.machine.now.heap tasks (steps.Ends ends.Ended) (config_of c.args.machine.now) c.args.script.now _ first (λ choices left request asks. asks) (λ choices. refl))

pub returns-in_ok-stepped-in-Declare : goal.returns-in_ok-stepped-in-Declare
returns-in_ok-stepped-in-Declare c = λ tasks has. (
    let first = rw c.in-Declare.is at has in
    made_first c.args.program.structs.now (program_of c.args.program) (values_of c.args.machine.now.work) c.args.machine.now.heap tasks c.in_ok-stepped-in-Declare.stepped (config_of c.declare.new.machine) c.args.script.now c.declare.new.script c.in-Declare.place (initial_of c.in-Declare.item.now) (tasks_of c.args.machine.now.work) first c.in_ok-stepped-in-Declare.ensures)

pub returns-in_ok-stepped-in-Simple : goal.returns-in_ok-stepped-in-Simple
returns-in_ok-stepped-in-Simple c = λ tasks has. (
    let first = rw c.in-Simple.is at has in
    made_of c.args.program.structs.now (program_of c.args.program) (values_of c.args.machine.now.work) c.args.machine.now.heap tasks c.in_ok-stepped-in-Simple.stepped (config_of c.perform.new.machine) c.args.script.now c.perform.new.script _ first c.in_ok-stepped-in-Simple.ensures)

pub returns-in_ok-stepped-in-Free : goal.returns-in_ok-stepped-in-Free
returns-in_ok-stepped-in-Free c = λ tasks has. (
    let first = rw c.in-Free.is at has in
    made_of c.args.program.structs.now (program_of c.args.program) (values_of c.args.machine.now.work) c.args.machine.now.heap tasks c.in_ok-stepped-in-Free.stepped (config_of c.free_at.new.machine) c.args.script.now c.free_at.new.script _ first c.in_ok-stepped-in-Free.ensures)

pub returns-in_ok-stepped-in-AssumeShape : goal.returns-in_ok-stepped-in-AssumeShape
returns-in_ok-stepped-in-AssumeShape c = λ tasks has. (
    let first = rw c.in-AssumeShape.is at has in
    made_of c.args.program.structs.now (program_of c.args.program) (values_of c.args.machine.now.work) c.args.machine.now.heap tasks c.in_ok-stepped-in-AssumeShape.stepped (config_of c.assume.new.machine) c.args.script.now c.assume.new.script _ first c.in_ok-stepped-in-AssumeShape.ensures)

pub returns-in_ok-stepped-in-AssertShape : goal.returns-in_ok-stepped-in-AssertShape
returns-in_ok-stepped-in-AssertShape c = λ tasks has. (
    let first = rw c.in-AssertShape.is at has in
    made_alone c.args.program.structs.now (program_of c.args.program) (values_of c.args.machine.now.work) c.args.machine.now.heap tasks c.in_ok-stepped-in-AssertShape.stepped (config_of c.assert.new.machine) c.args.script.now _ first (λ choices left request asks. asks) c.in_ok-stepped-in-AssertShape.ensures)

pub returns-in-AssertEmpty : goal.returns-in-AssertEmpty
returns-in-AssertEmpty c = λ tasks has. (
    let first = rw c.in-AssertEmpty.is at has in
    made_alone c.args.program.structs.now (program_of c.args.program) (values_of c.args.machine.now.work) c.args.machine.now.heap tasks c.assert_nothing.result (config_of c.args.machine.now) c.args.script.now _ first (λ choices left request asks. asks) (c.assert_nothing.ensures (program_of c.args.program)))

pub returns-in_ok-stepped-in-Return : goal.returns-in_ok-stepped-in-Return
returns-in_ok-stepped-in-Return c = λ tasks has. (
    let first = rw c.in-Return.is at has in
    made_of c.args.program.structs.now (program_of c.args.program) (values_of c.args.machine.now.work) c.args.machine.now.heap tasks c.in_ok-stepped-in-Return.stepped (config_of c.go_back_with.new.machine) c.args.script.now c.go_back_with.new.script _ first c.in_ok-stepped-in-Return.ensures)

pub returns-in_ok-stepped-in-Test : goal.returns-in_ok-stepped-in-Test
returns-in_ok-stepped-in-Test c = λ tasks has. (
    let first = rw c.in-Test.is at has in
    made_of c.args.program.structs.now (program_of c.args.program) (values_of c.args.machine.now.work) c.args.machine.now.heap tasks c.in_ok-stepped-in-Test.stepped (config_of c.test.new.machine) c.args.script.now c.test.new.script _ first c.in_ok-stepped-in-Test.ensures)

pub returns-in-Always : goal.returns-in-Always
returns-in-Always c = λ tasks has. (
    let first = rw c.in-Always.is at has in
    made_alone c.args.program.structs.now (program_of c.args.program) (values_of c.args.machine.now.work) c.args.machine.now.heap tasks steps.Goes (config_of c.args.machine.now) c.args.script.now _ first (λ choices left request asks. asks) (λ choices. refl))

pub returns-in_ok-stepped-in-TakeResult : goal.returns-in_ok-stepped-in-TakeResult
returns-in_ok-stepped-in-TakeResult c = λ tasks has. (
    let first = rw c.in-TakeResult.is at has in
    made_alone c.args.program.structs.now (program_of c.args.program) (values_of c.args.machine.now.work) c.args.machine.now.heap tasks c.in_ok-stepped-in-TakeResult.stepped (config_of c.take.new.machine) c.args.script.now _ first (λ choices left request asks. asks) c.in_ok-stepped-in-TakeResult.ensures)

pub returns-in-Stuck : goal.returns-in-Stuck
returns-in-Stuck c = λ tasks has. (
    let first = rw c.in-Stuck.is at has in
    made_alone c.args.program.structs.now (program_of c.args.program) (values_of c.args.machine.now.work) c.args.machine.now.heap tasks steps.Stuck (config_of c.args.machine.now) c.args.script.now tasks refl (λ choices left request asks. leaves_no_question (program_of c.args.program) (values_of c.args.machine.now.work) c.args.machine.now.heap tasks first choices left request asks) (λ choices r does. leaves_no_step (program_of c.args.program) (here_of c.args.machine.now) tasks first choices r does))
