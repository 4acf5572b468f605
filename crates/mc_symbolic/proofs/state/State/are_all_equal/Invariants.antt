use Rattle.std.proofs.Common.{◌≡◌, ℕ, drop, length}
use Rattle.mc_state.specs.Known.{Test, Tells, all_equal}
use Rattle.mc_state.specs.Facts.{AreAllEqual}
use Rattle.mc_symbolic.proofs.state.State.are_all_equal.Given as goal

abbrev pub invariant-loop-i : goal.invariant-loop-i
invariant-loop-i l = record {
  told : (know : Test) → Tells know l.self → all_equal know l.xs l.ys ≡ all_equal know (drop l.i l.xs) (drop l.i l.ys);
  lengths : length l.xs ≡ length l.ys;
  forth : AreAllEqual l.self (drop l.i l.xs) (drop l.i l.ys) → AreAllEqual l.self l.xs l.ys;
  back : AreAllEqual l.self l.xs l.ys → AreAllEqual l.self (drop l.i l.xs) (drop l.i l.ys);
}
