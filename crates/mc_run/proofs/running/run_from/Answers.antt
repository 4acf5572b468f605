use Rattle.std.proofs.Common.{◌-◌, ◌≤◌, length, arith}
use Rattle.mc_semantics.specs.Resolved.Steps.{start}
use Rattle.mc_semantics.specs.Resolved.Views.{function_of}
use Rattle.mc_run.specs.Models.{config_of, program_of}
use Rattle.mc_run.proofs.Going.{run_ended, run_ends, run_goes, run_left, run_refused, run_spent, run_stuck, starts}
use Rattle.mc_run.proofs.running.run_from.Goals as goal

pub loop-machine-init : goal.loop-machine-init
loop-machine-init c =
    starts (program_of c.args.program) c.args.program.structs.now (function_of c.args.entry.now) c.args.script.now c.args.fuel c.in_ok-work.work c.new-heap.result c.in_ok-work.ensures.tasks c.in_ok-work.ensures.values c.new-heap.ensures

pub returns-then-is_done : goal.returns-then-is_done
returns-then-is_done c =
    run_ended (program_of c.args.program) c.args.program.structs.now (start (function_of c.args.entry.now)) c.args.script.now c.args.fuel c.loop-machine.left c.loop-machine.machine.work c.arrive.new.self c.loop-machine.machine.heap c.loop-machine.script c.in_ok-next.next c.loop-machine.invariant c.in_ok-next.ensures
    (c.is_done.ensures.0 c.if-is_done.true)

pub returns-then-left-eq0 : goal.returns-then-left-eq0
returns-then-left-eq0 c =
    run_spent (program_of c.args.program) c.args.program.structs.now (start (function_of c.args.entry.now)) c.args.script.now c.args.fuel c.loop-machine.left c.loop-machine.machine.work c.arrive.new.self c.loop-machine.machine.heap c.loop-machine.script c.in_ok-next.next c.loop-machine.invariant c.in_ok-next.ensures
    c.if-left-eq0.true (λ is. (let b = c.is_done.ensures.1 is in let f = c.if-is_done.false in cc))

pub loop-machine-preserved : goal.loop-machine-preserved
loop-machine-preserved c =
    run_goes (program_of c.args.program) c.args.program.structs.now (start (function_of c.args.entry.now)) c.args.script.now c.args.fuel c.loop-machine.left c.loop-machine.machine.work c.arrive.new.self c.loop-machine.machine.heap c.loop-machine.script c.in_ok-next.next c.loop-machine.invariant c.in_ok-next.ensures
    _ c.in_ok-make.field-0 (config_of c.make.new.machine) c.make.new.script (omega (arith, c.if-left-eq0.false)) c.in-Goes.is c.in_ok-make.ensures

pub returns-in-Ends : goal.returns-in-Ends
returns-in-Ends c =
    rw c.outcome_of.ensures (
    run_ends (program_of c.args.program) c.args.program.structs.now (start (function_of c.args.entry.now)) c.args.script.now c.args.fuel c.loop-machine.left c.loop-machine.machine.work c.arrive.new.self c.loop-machine.machine.heap c.loop-machine.script c.in_ok-next.next c.loop-machine.invariant c.in_ok-next.ensures
    (c.loop-machine.left - 1) c.in_ok-make.field-0 c.in-Ends.end (config_of c.make.new.machine) c.make.new.script (omega (arith, c.if-left-eq0.false)) c.in-Ends.is c.in_ok-make.ensures)

pub overflow_sub-before : goal.overflow_sub-before
overflow_sub-before c =
    let fewer : length c.make.new.script ≤ length c.args.script.now =
    run_left (program_of c.args.program) c.args.program.structs.now (start (function_of c.args.entry.now)) c.args.script.now c.args.fuel c.loop-machine.left c.loop-machine.machine.work c.arrive.new.self c.loop-machine.machine.heap c.loop-machine.script c.in_ok-next.next c.loop-machine.invariant c.in_ok-next.ensures
    c.in_ok-make.field-0 c.in-Unanswered.why (config_of c.make.new.machine) c.make.new.script c.in-Unanswered.is c.in_ok-make.ensures in
    omega (arith, fewer, c.count.ensures.count, c.count-before.ensures.count)

pub returns-in-Unanswered : goal.returns-in-Unanswered
returns-in-Unanswered c =
    let p = program_of c.args.program in
    let first = start (function_of c.args.entry.now) in
    let refused =
    run_refused p c.args.program.structs.now first c.args.script.now c.args.fuel c.loop-machine.left c.loop-machine.machine.work c.arrive.new.self c.loop-machine.machine.heap c.loop-machine.script c.in_ok-next.next c.loop-machine.invariant c.in_ok-next.ensures
    (c.loop-machine.left - 1) c.in_ok-make.field-0 c.in-Unanswered.why (config_of c.make.new.machine) c.make.new.script (omega (arith, c.if-left-eq0.false)) c.in-Unanswered.is c.in_ok-make.ensures in
    rw (c.waiting.ensures, c.count-before.ensures.count, c.count.ensures.count) refused

pub returns-in-Stuck : goal.returns-in-Stuck
returns-in-Stuck c =
    run_stuck (program_of c.args.program) c.args.program.structs.now (start (function_of c.args.entry.now)) c.args.script.now c.args.fuel c.loop-machine.left c.loop-machine.machine.work c.arrive.new.self c.loop-machine.machine.heap c.loop-machine.script c.in_ok-next.next c.loop-machine.invariant c.in_ok-next.ensures
    (c.loop-machine.left - 1) c.in_ok-make.field-0 (config_of c.make.new.machine) c.make.new.script (omega (arith, c.if-left-eq0.false)) c.in-Stuck.is c.in_ok-make.ensures
