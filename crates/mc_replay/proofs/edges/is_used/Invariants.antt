use Rattle.std.proofs.Common.{◌≡◌, drop}
use Rattle.mc_state.specs.Named.{is_among}
use Rattle.mc_replay.proofs.edges.is_used.Given as goal

abbrev pub invariant-loop-other : goal.invariant-loop-other
invariant-loop-other l = is_among l.id l.used ≡ is_among l.id (drop l.other-index l.used)
