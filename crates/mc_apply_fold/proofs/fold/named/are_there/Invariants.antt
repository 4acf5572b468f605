use Rattle.std.proofs.Common.{◌≡◌, drop}
use Rattle.mc_state.specs.Named.{are_there}
use Rattle.mc_apply_fold.proofs.fold.named.are_there.Given as goal

abbrev pub invariant-loop-id : goal.invariant-loop-id
invariant-loop-id l = are_there l.s.graph.edges l.ids ≡ are_there l.s.graph.edges (drop l.id-index l.ids)
