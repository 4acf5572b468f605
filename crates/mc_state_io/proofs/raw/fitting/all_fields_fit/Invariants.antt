use Rattle.std.proofs.Common.{◌≡◌, drop, length, map}
use Rattle.mc_state.specs.Fits.{MayHaveKinds}
use Rattle.mc_state_io.proofs.raw.fitting.all_fields_fit.Given as goal

abbrev pub invariant-loop-i : goal.invariant-loop-i
invariant-loop-i l = record {
  lengths : length l.fields ≡ length l.nodes;
  forth : MayHaveKinds l.state.kinds (map (λ x. x.kind) (drop l.i l.fields)) (drop l.i l.nodes) → MayHaveKinds l.state.kinds (map (λ x. x.kind) l.fields) l.nodes;
  back : MayHaveKinds l.state.kinds (map (λ x. x.kind) l.fields) l.nodes → MayHaveKinds l.state.kinds (map (λ x. x.kind) (drop l.i l.fields)) (drop l.i l.nodes);
}
