use Rattle.std.proofs.Common.{◌≡◌, drop, length}
use Rattle.mc_replay.specs.Named.{of_kinds}
use Rattle.mc_replay.proofs.naming.are_of_kinds.Given as goal

abbrev pub invariant-loop-i : goal.invariant-loop-i
invariant-loop-i l = record {
  so_far : of_kinds l.state.kinds l.kinds l.terms ≡ of_kinds l.state.kinds (drop l.i l.kinds) (drop l.i l.terms);
  lengths : length l.kinds ≡ length l.terms;
}
