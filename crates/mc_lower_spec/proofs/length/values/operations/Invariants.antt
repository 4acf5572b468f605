use Rattle.std.proofs.Common.{◌≡◌, ◌+◌}
use Rattle.mc_semantics.specs.Resolved.Views.{expression_of}
use Rattle.mc_lower_spec.specs.Length.Lengths.{operations}
use Rattle.mc_lower_spec.specs.Length.Waiting.{parts_left}
use Rattle.mc_lower_spec.proofs.length.values.operations.Given as goal

abbrev pub invariant-parts : goal.invariant-parts
invariant-parts l = l.count + parts_left l.work ≡ operations (expression_of l.whole)
