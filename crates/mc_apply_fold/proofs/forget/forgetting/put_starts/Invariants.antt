use Rattle.std.proofs.Common.{◌≡◌, take}
use Rattle.mc_apply_fold.specs.Forget.Left.{with_starts}
use Rattle.mc_apply_fold.proofs.forget.forgetting.put_starts.Given as goal

abbrev pub invariant-loop-start : goal.invariant-loop-start
invariant-loop-start l = l.pure ≡ with_starts l.fn.pure (take l.start-index l.starts)
