use Rattle.std.proofs.Common.{ap}
use Rattle.mc_pure.specs.Pure.{Pure, IsNode}
use Rattle.mc_apply_fold.proofs.ForgetLemmas.Lists.{all_at}
use Rattle.mc_apply_fold.proofs.forget.forgetting.put_starts.Goals as goal

pub block-requires : goal.block-requires
block-requires c =
    rw (ap (λ (p : Pure). p.kinds) c.loop-start.invariant)
    (all_at (IsNode c.args.pure.now.kinds) c.args.starts.now c.loop-start.start-index (record { 0 = 0 }) c.loop-start-test.true c.requires)
