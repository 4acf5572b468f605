use Rattle.std.proofs.Common.{◌≡◌, drop, length}
use Rattle.mc_state.specs.Fits.{HaveKinds}
use Rattle.mc_state_io.proofs.raw.fitting.have_kinds.Given as goal

abbrev pub invariant-loop-i : goal.invariant-loop-i
invariant-loop-i l = record {
  lengths : length l.kinds ≡ length l.nodes;
  forth : HaveKinds l.state.kinds (drop l.i l.kinds) (drop l.i l.nodes) → HaveKinds l.state.kinds l.kinds l.nodes;
  back : HaveKinds l.state.kinds l.kinds l.nodes → HaveKinds l.state.kinds (drop l.i l.kinds) (drop l.i l.nodes);
}
