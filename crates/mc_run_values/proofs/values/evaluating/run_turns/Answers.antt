use Rattle.mc_semantics.specs.Resolved.Views.{expression_of}
use Rattle.mc_run_values.proofs.ValuesLemmas.Turning.{expression_begun}
use Rattle.mc_run_values.proofs.ValuesLemmas.Whole.{turn_ends, turn_falls, turn_goes}
use Rattle.mc_run_values.proofs.values.evaluating.run_turns.Goals as goal

pub loop-next-init : goal.loop-next-init
loop-next-init c =
    expression_begun c.args.here.now.structs.now c.args.here.now.values.now c.args.here.now.heap.now c.args.expression c.args.stack.now c.args.script.now c.requires

pub loop-next-preserved : goal.loop-next-preserved
loop-next-preserved c =
    turn_goes c.args.here.now.structs.now c.args.here.now.values.now c.args.here.now.heap.now (expression_of c.args.expression.now) c.loop-next.hand c.in-Goes.next c.loop-next.stack c.take_turn.new.stack c.in_ok-next.field-0 c.args.script.now c.loop-next.script c.take_turn.new.script c.in-Goes.is c.loop-next.invariant c.in_ok-next.ensures.turn

pub loop-next-smaller : goal.loop-next-smaller
loop-next-smaller c =
    turn_falls c.loop-next.hand c.in-Goes.next c.loop-next.stack c.take_turn.new.stack c.in_ok-next.field-0 c.in-Goes.is c.in_ok-next.ensures.falls

pub returns-in-Ends : goal.returns-in-Ends
returns-in-Ends c =
    turn_ends c.args.here.now.structs.now c.args.here.now.values.now c.args.here.now.heap.now (expression_of c.args.expression.now) c.loop-next.hand c.in-Ends.answer c.loop-next.stack c.take_turn.new.stack c.in_ok-next.field-0 c.args.script.now c.loop-next.script c.take_turn.new.script c.in-Ends.is c.loop-next.invariant c.in_ok-next.ensures.turn
