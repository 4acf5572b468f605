use Rattle.std.proofs.Common.{◌≡◌}
use Rattle.mc_pure.specs.Whole.{kinds_without}
use Rattle.mc_apply_fold.specs.Forget.Left.{only_kinds, first_kinds}
use Rattle.mc_apply_fold.proofs.forget.forgetting.others.Given as goal

abbrev pub invariant-loop-node : goal.invariant-loop-node
invariant-loop-node l = l.rest ≡ only_kinds (kinds_without (first_kinds l.node-index l.pure.kinds) l.lost)
