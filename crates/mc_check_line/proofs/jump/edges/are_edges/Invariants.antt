use Rattle.std.proofs.Common.{◌≡◌, drop, length}
use Rattle.mc_state.specs.Known.{Test, Tells}
use Rattle.mc_state.specs.Lists.{all_both}
use Rattle.mc_kernel.specs.Judges.{is_edge_at}
use Rattle.mc_check_line.proofs.jump.edges.are_edges.Given as goal

abbrev pub invariant-loop-i : goal.invariant-loop-i
invariant-loop-i l =
    (length l.theres ≡ length l.ids)
    × ((know : Test) → Tells know l.s → all_both (is_edge_at know l.s.graph.edges l.images) l.theres l.ids ≡ all_both (is_edge_at know l.s.graph.edges l.images) (drop l.i l.theres) (drop l.i l.ids))
