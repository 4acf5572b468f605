use Rattle.std.proofs.Common.{◌≡◌, drop, flat_map}
use Rattle.mc_c_types.specs.Faults.{shape_argument_faults}
use Rattle.mc_c_types.specs.First.{told_of}
use Rattle.mc_c_types.specs.Held.{variables_held}
use Rattle.mc_c_check.proofs.bodies.check_arguments.Given as goal

abbrev pub invariant-loop-argument : goal.invariant-loop-argument
invariant-loop-argument l =
    told_of l.told.fault (flat_map (shape_argument_faults (variables_held l.sight.scope.now)) (drop l.argument-index l.arguments)) ≡ told_of l.initial.told.fault (flat_map (shape_argument_faults (variables_held l.sight.scope.now)) l.arguments)
