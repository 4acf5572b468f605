use Rattle.std.proofs.Common.{◌<◌, arith, length}
use Rattle.mc_apply_unfold.proofs.Equal.{equal_put}
use Rattle.mc_apply_unfold.proofs.opening.put_equal.Goals as goal

pub loop-i-preserved : goal.loop-i-preserved
loop-i-preserved c =
    let inside : c.loop-i.i < length c.args.left.now = omega arith in
    equal_put c.args.left.now c.args.right.now c.loop-i.i _ _ _ _ inside c.in_ok-put_equal_at.ensures c.loop-i.invariant
