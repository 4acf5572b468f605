use Rattle.std.proofs.Common.{◌≡◌, length, map}
use Rattle.mc_flow.specs.Values.{all_there}
use Rattle.mc_semantics.specs.Resolved.Steps.{argument_value}
use Rattle.mc_semantics.specs.Resolved.Views.{argument_of}
use Rattle.mc_run_values.specs.Script.Models.{prefixed}
use Rattle.mc_run_values.specs.Tasks.Going.{values_of}
use Rattle.mc_run.proofs.shapes.values_of.Given as goal

abbrev pub invariant-loop-left : goal.invariant-loop-left
invariant-loop-left l =
    prefixed l.there.items (all_there (map (argument_value (values_of l.machine.work)) (map argument_of l.left)))
    ≡ all_there (map (argument_value (values_of l.machine.work)) (map argument_of l.arguments))

abbrev pub decreases-loop-left : goal.decreases-loop-left
decreases-loop-left l = length l.left
