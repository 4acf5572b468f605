use Rattle.std.proofs.Common.{◌≡◌, ℕ, ◌+◌, ◌-◌, ◌/◌, ◌<◌, length, arith}
use Rattle.mc_pure_ops.proofs.CanonLemmas.Lists.{after_here, before_here, there_here}
use Rattle.mc_pure_ops.proofs.canon.order.spot_of.Goals as goal

pub loop-low-preserved-in-Before : goal.loop-low-preserved-in-Before
loop-low-preserved-in-Before c =
    let b = c.loop-low.invariant.bound in
    let t = c.loop-low-test.true in
    record {
      order = omega arith;
      bound = b;
      below = after_here c.args.list.now c.args.atom.now _ (c.loop-low.low + (c.loop-low.high - c.loop-low.low) / 2) (omega arith) c.in-Before.ensures;
      above = c.loop-low.invariant.above;
    }

pub returns-in-Same : goal.returns-in-Same
returns-in-Same c =
    let b = c.loop-low.invariant.bound in
    let t = c.loop-low-test.true in
    let k = c.in-Same.ensures in
    there_here c.args.list.now c.args.atom.now _ (c.loop-low.low + (c.loop-low.high - c.loop-low.low) / 2) (omega arith) k.0 k.1 k.2 k.3

pub loop-low-preserved : goal.loop-low-preserved
loop-low-preserved c =
    let b = c.loop-low.invariant.bound in
    let t = c.loop-low-test.true in
    record {
      order = omega arith;
      bound = omega arith;
      below = c.loop-low.invariant.below;
      above = before_here c.args.list.now c.args.atom.now _ (c.loop-low.low + (c.loop-low.high - c.loop-low.low) / 2) (omega arith) c.in-After.ensures;
    }
