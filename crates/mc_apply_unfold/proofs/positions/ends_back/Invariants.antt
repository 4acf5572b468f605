use Rattle.std.proofs.Common.{◌≡◌, drop}
use Rattle.mc_rules_logic.specs.Back.Judges.{ends_back_at}
use Rattle.mc_state.specs.Known.{Test, Tells}
use Rattle.mc_apply_unfold.proofs.positions.ends_back.Given as goal

abbrev pub invariant-loop-i : goal.invariant-loop-i
invariant-loop-i l =
    (know : Test) → Tells know l.s
    → ends_back_at know l.defs l.pred l.node l.i (drop l.i l.ends) ≡ ends_back_at know l.defs l.pred l.node 0 l.ends
