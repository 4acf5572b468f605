use Rattle.std.proofs.Common.{◌+◌, ◌-◌, ◌/◌, arith}
use Rattle.mc_pure_ops.proofs.RenamingLemmas.Looking.{low_more, high_less}
use Rattle.mc_pure_ops.proofs.renaming.place_in.Goals as goal

pub loop-low-preserved-then-pairs-middle : goal.loop-low-preserved-then-pairs-middle
loop-low-preserved-then-pairs-middle c =
    let b = c.loop-low.invariant.bound in
    let t = c.loop-low-test.true in
    record {
      order = omega arith;
      bound = b;
      below = low_more c.args.pairs.now c.args.node (c.loop-low.low + (c.loop-low.high - c.loop-low.low) / 2) _ c.requires (omega arith) c.if-pairs-middle.true;
      above = c.loop-low.invariant.above;
    }

pub loop-low-preserved : goal.loop-low-preserved
loop-low-preserved c =
    let b = c.loop-low.invariant.bound in
    let t = c.loop-low-test.true in
    record {
      order = omega arith;
      bound = omega arith;
      below = c.loop-low.invariant.below;
      above = high_less c.args.pairs.now c.args.node (c.loop-low.low + (c.loop-low.high - c.loop-low.low) / 2) _ c.requires (omega arith) c.if-pairs-middle.false;
    }
