use Rattle.std.proofs.Common.{◌≡◌, ◌++◌, length, map}
use Rattle.std.specs.Vec.Iter.{into_iter_items, into_iter_len}
use Rattle.mc_kernel.specs.Branches.{with_state}
use Rattle.mc_check_line.specs.Judging.{path}
use Rattle.mc_check_line.proofs.unfolds.with_states.Given as goal

abbrev pub invariant-loop-state : goal.invariant-loop-state
invariant-loop-state l =
    (map path l.list.items ++ map (with_state (path l.branch)) (into_iter_items l.state-iterator)
    ≡ map (with_state (path l.branch)) (into_iter_items l.initial.state-iterator))
    × (into_iter_len l.state-iterator ≡ length (into_iter_items l.state-iterator))
