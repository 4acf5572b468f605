use Rattle.std.proofs.Common.{◌≡◌, drop, length}
use Rattle.mc_state.specs.Known.{has_kind}
use Rattle.mc_state.specs.Lists.{all_both}
use Rattle.mc_apply_fold.proofs.change.empty.have_kinds.Given as goal

abbrev pub invariant-loop-i : goal.invariant-loop-i
invariant-loop-i l = (length l.kinds ≡ length l.nodes) × (all_both (has_kind l.s.kinds) l.kinds l.nodes ≡ all_both (has_kind l.s.kinds) (drop l.i l.kinds) (drop l.i l.nodes))
