use Rattle.std.proofs.Common.{length, map}
use Rattle.mc_semantics.specs.Resolved.Views.{expression_of}
use Rattle.mc_run_values.proofs.ValuesLemmas.SoFar.{ComesSoFar}
use Rattle.mc_run_values.proofs.values.evaluating.Evaluator.evaluate_all.Given as goal

abbrev pub invariant-loop-left : goal.invariant-loop-left
invariant-loop-left l =
    ComesSoFar l.here.structs.now l.here.values.now l.here.heap.now (map expression_of l.arguments) l.values.items (map expression_of l.left) l.initial.script l.script

abbrev pub decreases-loop-left : goal.decreases-loop-left
decreases-loop-left l = length l.left
