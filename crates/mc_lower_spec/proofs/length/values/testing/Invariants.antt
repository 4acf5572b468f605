use Rattle.std.proofs.Common.{◌≡◌, ◌+◌}
use Rattle.mc_semantics.specs.Resolved.Views.{condition_of}
use Rattle.mc_lower_spec.specs.Length.Lengths.{testing}
use Rattle.mc_lower_spec.specs.Length.Waiting.{tests_left}
use Rattle.mc_lower_spec.proofs.length.values.testing.Given as goal

abbrev pub invariant-parts : goal.invariant-parts
invariant-parts l = l.count + tests_left l.work ≡ testing (condition_of l.whole)
