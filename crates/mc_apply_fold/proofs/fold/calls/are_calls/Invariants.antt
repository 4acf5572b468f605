use Rattle.std.proofs.Common.{◌≡◌, drop, length}
use Rattle.mc_state.specs.Known.{Test, Tells}
use Rattle.mc_state.specs.Lists.{all_both}
use Rattle.mc_rules_logic.specs.Fold.Judges.{is_call_at}
use Rattle.mc_apply_fold.proofs.fold.calls.are_calls.Given as goal

abbrev pub invariant-loop-i : goal.invariant-loop-i
invariant-loop-i l =
    (length l.calls ≡ length l.ids)
    × ((know : Test) → Tells know l.s → all_both (is_call_at know l.s.graph.edges l.names) l.calls l.ids ≡ all_both (is_call_at know l.s.graph.edges l.names) (drop l.i l.calls) (drop l.i l.ids))
