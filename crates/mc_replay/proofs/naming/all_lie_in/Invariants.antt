use Rattle.std.proofs.Common.{◌≡◌, drop, length}
use Rattle.mc_state.specs.Known.{Test, Tells}
use Rattle.mc_cover.specs.Terms.{all_lie_in}
use Rattle.mc_replay.proofs.naming.all_lie_in.Given as goal

abbrev pub invariant-loop-i : goal.invariant-loop-i
invariant-loop-i l = record {
  told : (know : Test) → Tells know l.state → all_lie_in know l.kinds l.terms ≡ all_lie_in know (drop l.i l.kinds) (drop l.i l.terms);
  lengths : length l.kinds ≡ length l.terms;
}
