use Rattle.std.proofs.Common.{ℤ, List, Option, length, take, drop, map, ◌-◌, sym, subst, arith}
use Rattle.mc_semantics.specs.Resolved.Views.{expression_of}
use Rattle.mc_run_values.proofs.ValuesLemmas.SoFar.{ComesSoFar}
use Rattle.mc_run_values.proofs.ValuesLemmas.Row.{all_evaluated, faults_there, goes_on, refused_there, row_begins}
use Rattle.mc_run_values.proofs.values.evaluating.Evaluator.evaluate_all.Goals as goal

pub loop-left-init : goal.loop-left-init
loop-left-init c =
    subst (λ (vs : List (Option ℤ)). ComesSoFar c.args.here.now.structs.now c.args.here.now.values.now c.args.here.now.heap.now (map expression_of c.args.arguments.now) vs (map expression_of c.args.arguments.now) c.args.script.now c.args.script.now) (sym c.in_ok-values.ensures.items) (row_begins c.args.here.now.structs.now c.args.here.now.values.now c.args.here.now.heap.now (map expression_of c.args.arguments.now) c.args.script.now)

pub loop-left-preserved : goal.loop-left-preserved
loop-left-preserved c =
    let answer = rw c.in-Value.is at c.in_ok-value.ensures in
    subst (λ (vs : List (Option ℤ)). ComesSoFar c.args.here.now.structs.now c.args.here.now.values.now c.args.here.now.heap.now (map expression_of c.args.arguments.now) vs (map expression_of (take (length c.loop-left.left.now - 1) (drop 1 c.loop-left.left.now))) c.args.script.now c.evaluate.new.script) (sym c.in_ok-push-in-Value.ensures.items) (
    goes_on c.args.here.now.structs.now c.args.here.now.values.now c.args.here.now.heap.now (map expression_of c.args.arguments.now) c.loop-left.values.items c.loop-left.left.now c.argument-item.result c.in-Value.value c.args.script.now c.loop-left.script c.evaluate.new.script c.in-len1-up.len_at_least c.argument-item.is c.loop-left.invariant answer
    )

pub returns-in-Fault : goal.returns-in-Fault
returns-in-Fault c =
    let answer = rw c.in-Fault.is at c.in_ok-value.ensures in
    faults_there c.args.here.now.structs.now c.args.here.now.values.now c.args.here.now.heap.now (map expression_of c.args.arguments.now) c.loop-left.values.items c.loop-left.left.now c.argument-item.result c.in-Fault.kind c.args.script.now c.loop-left.script c.evaluate.new.script c.in-len1-up.len_at_least c.argument-item.is c.loop-left.invariant answer

pub returns-in-Unanswered : goal.returns-in-Unanswered
returns-in-Unanswered c =
    let answer = rw c.in-Unanswered.is at c.in_ok-value.ensures in
    refused_there c.args.here.now.structs.now c.args.here.now.values.now c.args.here.now.heap.now (map expression_of c.args.arguments.now) c.loop-left.values.items c.loop-left.left.now c.argument-item.result c.in-Unanswered.why c.args.script.now c.loop-left.script c.evaluate.new.script c.in-len1-up.len_at_least c.argument-item.is c.loop-left.invariant answer

pub returns : goal.returns
returns c =
    all_evaluated c.args.here.now.structs.now c.args.here.now.values.now c.args.here.now.heap.now (map expression_of c.args.arguments.now) c.loop-left.values.items c.loop-left.left.now c.args.script.now c.loop-left.script (omega (arith, c.in_default.len_below)) c.loop-left.invariant
