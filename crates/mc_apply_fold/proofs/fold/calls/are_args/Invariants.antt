use Rattle.std.proofs.Common.{◌≡◌, drop, length}
use Rattle.mc_state.specs.Known.{Test, Tells}
use Rattle.mc_state.specs.Lists.{all_both}
use Rattle.mc_rules_logic.specs.Fold.Judges.{is_named}
use Rattle.mc_apply_fold.proofs.fold.calls.are_args.Given as goal

abbrev pub invariant-loop-i : goal.invariant-loop-i
invariant-loop-i l =
    (length l.args ≡ length l.nodes)
    × ((know : Test) → Tells know l.s → all_both (is_named know l.names) l.args l.nodes ≡ all_both (is_named know l.names) (drop l.i l.args) (drop l.i l.nodes))
