use Rattle.std.proofs.Common.{◌≡◌}
use Rattle.mc_lower_spec.specs.Length.Waiting.{total}
use Rattle.mc_lower_spec.proofs.length.statements.Counter.run.Given as goal

abbrev pub invariant-tasks : goal.invariant-tasks
invariant-tasks l = total l.self l.tasks ≡ total l.fn.self l.fn.tasks
