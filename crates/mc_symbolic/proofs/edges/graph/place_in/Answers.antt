use Rattle.std.proofs.Common.{◌≡◌, ◌+◌, ◌-◌, ◌/◌, get_or, ap, sym, arith}
use Rattle.mc_symbolic.proofs.EdgesLemmas.Places.{Entry, low_more, high_less}
use Rattle.mc_symbolic.proofs.edges.graph.place_in.Goals as goal

pub loop-low-preserved-then-edges-middle : goal.loop-low-preserved-then-edges-middle
loop-low-preserved-then-edges-middle c =
    let t = c.if-edges-middle.true in
    let n = ap (λ (z : Entry). z.0.0) c.index-edges-middle.is in
    record {
      order = omega arith;
      bound = c.loop-low.invariant.bound;
      below = low_more c.args.edges.now c.args.id (c.loop-low.low + (c.loop-low.high - c.loop-low.low) / 2) c.index-edges-middle.result c.requires (omega arith) (omega arith);
      above = c.loop-low.invariant.above;
    }

pub loop-low-preserved : goal.loop-low-preserved
loop-low-preserved c =
    let t = c.if-edges-middle.false in
    let n = ap (λ (z : Entry). z.0.0) c.index-edges-middle.is in
    record {
      order = omega arith;
      bound = omega arith;
      below = c.loop-low.invariant.below;
      above = high_less c.args.edges.now c.args.id (c.loop-low.low + (c.loop-low.high - c.loop-low.low) / 2) c.index-edges-middle.result c.requires (omega arith) (omega arith);
    }
