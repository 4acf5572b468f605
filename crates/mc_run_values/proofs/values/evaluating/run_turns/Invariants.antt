use Rattle.std.proofs.Common.{◌+◌}
use Rattle.mc_semantics.specs.Resolved.Views.{expression_of}
use Rattle.mc_run_values.specs.Values.Turns.{hand_weight, stack_weight}
use Rattle.mc_run_values.proofs.ValuesLemmas.Whole.{Stands}
use Rattle.mc_run_values.proofs.values.evaluating.run_turns.Given as goal

abbrev pub invariant-loop-next : goal.invariant-loop-next
invariant-loop-next l =
    Stands l.here.structs.now l.here.values.now l.here.heap.now (expression_of l.expression) l.hand l.stack l.initial.script l.script

abbrev pub decreases-loop-next : goal.decreases-loop-next
decreases-loop-next l = hand_weight l.hand + stack_weight l.stack
