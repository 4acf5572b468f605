use Rattle.std.proofs.Common.{◌≡◌, ◌++◌, drop, map}
use Rattle.mc_semantics.specs.Resolved.Steps.{passed}
use Rattle.mc_semantics.specs.Resolved.Views.{local_of}
use Rattle.mc_run_values.proofs.tasks.values.first_values.Given as goal

abbrev pub invariant-loop : goal.invariant-loop
invariant-loop l =
    l.values.items ++ passed l.passing.parameters (drop l.index (map local_of l.locals)) l.passing.arguments.now
    ≡ passed l.initial.passing.parameters (map local_of l.locals) l.initial.passing.arguments.now
