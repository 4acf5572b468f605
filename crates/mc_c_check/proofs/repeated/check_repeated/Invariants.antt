use Rattle.std.proofs.Common.{◌≡◌, [], drop, reverse}
use Rattle.mc_c_types.specs.Faults.{repeated}
use Rattle.mc_c_types.specs.First.{told_of}
use Rattle.mc_c_check.specs.Collected.{names_held}
use Rattle.mc_c_check.proofs.repeated.check_repeated.Given as goal

abbrev pub invariant-loop-name : goal.invariant-loop-name
invariant-loop-name l =
    told_of l.told.fault (repeated (reverse l.before) (names_held (drop l.name-index l.names))) ≡ told_of l.initial.told.fault (repeated [] (names_held l.names))
