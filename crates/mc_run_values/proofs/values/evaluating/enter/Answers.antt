use Rattle.std.proofs.Common.{◌∙◌, ap, to_z, of_z, w64}
use Rattle.std.proofs.lemmas.Int.{to_z-of_z}
use Rattle.mc_semantics.specs.Resolved.Views.{expression_of, left_of}
use Rattle.mc_run_values.proofs.ValuesLemmas.Seen.{difference_seen, input_seen, minus_seen, number_seen, plus_seen, times_seen, value_seen}
use Rattle.mc_run_values.proofs.ValuesLemmas.Turning.{difference_entered, input_entered, left_fails, left_found, minus_entered, number_found, plus_entered, times_entered}
use Rattle.mc_run_values.proofs.values.evaluating.enter.Goals as goal

pub returns-in-Number-clause-turn : goal.returns-in-Number-clause-turn
returns-in-Number-clause-turn c =
    number_found c.args.here.now.structs.now c.args.here.now.values.now c.args.here.now.heap.now c.args.expression c.in-Number.n (to_z w64 (of_z w64 c.from.result)) c.args.stack.now c.args.script.now (ap expression_of c.in-Number.is ∙ number_seen c.in-Number.n) (to_z-of_z w64 c.from.result (record { sfits = c.from.type_inv }) ∙ c.from.ensures)

pub returns-in_ok-input-in-Input-clause-turn : goal.returns-in_ok-input-in-Input-clause-turn
returns-in_ok-input-in-Input-clause-turn c =
    input_entered c.args.here.now.structs.now c.args.here.now.values.now c.args.here.now.heap.now c.args.expression c.args.stack.now c.args.script.now c.input.new.script c.in_ok-input-in-Input.field-0 c.given.result (ap expression_of c.in-Input.is ∙ input_seen) c.in_ok-input-in-Input.ensures c.given.ensures

pub returns-in-Ok-clause-turn : goal.returns-in-Ok-clause-turn
returns-in-Ok-clause-turn c =
    left_found c.args.here.now.structs.now c.args.here.now.values.now c.args.here.now.heap.now c.args.expression (left_of c.in-Value.left) c.in-Ok.value c.args.stack.now c.args.script.now (ap expression_of c.in-Value.is ∙ value_seen c.in-Value.left) c.in-Ok.ensures

pub returns-in-Err-clause-turn : goal.returns-in-Err-clause-turn
returns-in-Err-clause-turn c =
    left_fails c.args.here.now.structs.now c.args.here.now.values.now c.args.here.now.heap.now c.args.expression (left_of c.in-Value.left) c.in-Err.kind c.args.stack.now c.args.stack.now c.args.script.now (ap expression_of c.in-Value.is ∙ value_seen c.in-Value.left) c.in-Err.ensures

pub returns-in_ok-push-in-Minus-clause-turn : goal.returns-in_ok-push-in-Minus-clause-turn
returns-in_ok-push-in-Minus-clause-turn c =
    minus_entered c.args.here.now.structs.now c.args.here.now.values.now c.args.here.now.heap.now c.args.expression c.deref.result c.args.stack.now c.push.new.self c.args.script.now (
    minus_seen c.args.expression.now c.deref.result.now c.in-Minus.part c.in-Minus.is c.deref.ensures
    ) c.in_ok-push-in-Minus.ensures

pub returns-in_ok-push-in-Times-clause-turn : goal.returns-in_ok-push-in-Times-clause-turn
returns-in_ok-push-in-Times-clause-turn c =
    times_entered c.args.here.now.structs.now c.args.here.now.values.now c.args.here.now.heap.now c.args.expression c.deref-in-Times-2.result c.deref-in-Times.result c.args.stack.now c.push-in-Times.new.self c.args.script.now (
    times_seen c.args.expression.now c.deref-in-Times-2.result.now c.deref-in-Times.result.now c.in-Times.first c.in-Times.second c.in-Times.is c.deref-in-Times-2.ensures c.deref-in-Times.ensures
    ) c.in_ok-push-in-Times.ensures

pub returns-in_ok-push-in-Plus-clause-turn : goal.returns-in_ok-push-in-Plus-clause-turn
returns-in_ok-push-in-Plus-clause-turn c =
    plus_entered c.args.here.now.structs.now c.args.here.now.values.now c.args.here.now.heap.now c.args.expression c.deref-in-Plus-2.result c.deref-in-Plus.result c.args.stack.now c.push-in-Plus.new.self c.args.script.now (
    plus_seen c.args.expression.now c.deref-in-Plus-2.result.now c.deref-in-Plus.result.now c.in-Plus.first c.in-Plus.second c.in-Plus.is c.deref-in-Plus-2.ensures c.deref-in-Plus.ensures
    ) c.in_ok-push-in-Plus.ensures

pub returns-in_ok-push-in-Difference-clause-turn : goal.returns-in_ok-push-in-Difference-clause-turn
returns-in_ok-push-in-Difference-clause-turn c =
    difference_entered c.args.here.now.structs.now c.args.here.now.values.now c.args.here.now.heap.now c.args.expression c.deref-in-Difference-2.result c.deref-in-Difference.result c.args.stack.now c.push-in-Difference.new.self c.args.script.now (
    difference_seen c.args.expression.now c.deref-in-Difference-2.result.now c.deref-in-Difference.result.now c.in-Difference.first c.in-Difference.second c.in-Difference.is c.deref-in-Difference-2.ensures c.deref-in-Difference.ensures
    ) c.in_ok-push-in-Difference.ensures
