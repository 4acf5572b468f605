use Rattle.std.proofs.Common.{◌≡◌, ◌+◌, map, drop}
use Rattle.mc_semantics.specs.Resolved.Views.{expression_of}
use Rattle.mc_lower_spec.specs.Length.Lengths.{all_operations}
use Rattle.mc_lower_spec.proofs.length.values.all_operations.Given as goal

abbrev pub invariant-loop-at : goal.invariant-loop-at
invariant-loop-at l = l.count + all_operations (map expression_of (drop l.at l.wholes)) ≡ all_operations (map expression_of l.wholes)
