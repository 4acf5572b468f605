use Rattle.std.proofs.Common.{◌≡◌, drop, map}
use Rattle.mc_c_types.specs.First.{told_of}
use Rattle.mc_c_types.specs.Held.{variables_held}
use Rattle.mc_c_types.specs.Shapes.{argument_given, given_faults}
use Rattle.mc_c_check.proofs.shapes.check_kinds.Given as goal

abbrev pub invariant-loop-i : goal.invariant-loop-i
invariant-loop-i l =
    told_of l.told.fault (given_faults (drop l.i l.kinds) (map (argument_given (variables_held l.sight.scope.now)) (drop l.i l.arguments))) ≡ told_of l.initial.told.fault (given_faults l.kinds (map (argument_given (variables_held l.sight.scope.now)) l.arguments))
