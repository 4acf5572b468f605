use Rattle.std.proofs.Common.{◌≡◌}
use Rattle.mc_lower_spec.specs.Length.Lengths.{below}
use Rattle.mc_lower_spec.proofs.length.statements.body_points.Given as goal

abbrev pub invariant-loop-number : goal.invariant-loop-number
invariant-loop-number l = l.made.items ≡ below l.number
