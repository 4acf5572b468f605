use Rattle.std.proofs.Common.{◌-◌, length, take}
use Rattle.mc_outside.proofs.StreamLemmas.{consumes_more, front_read, front_fits}
use Rattle.mc_outside.proofs.streams.read_whole.Goals as goal

pub loop-filled-preserved : goal.loop-filled-preserved
loop-filled-preserved g c = record {
  bound = front_fits c.loop-filled.filled (length c.loop-filled.buf - c.loop-filled.filled) c.in_ok-n.n c.loop-filled.buf c.read.new.buf c.loop-filled.invariant.bound c.in_ok-n.ensures.bound.0;
  read = rw (front_read c.loop-filled.filled (length c.loop-filled.buf - c.loop-filled.filled) c.in_ok-n.n c.loop-filled.buf c.read.new.buf c.loop-filled.invariant.bound c.in_ok-n.ensures.bound.0)
      (consumes_more (g.R.Read.remaining c.args.from.now) (g.R.Read.remaining c.loop-filled.from) (g.R.Read.remaining c.read.new.self) (take c.loop-filled.filled c.loop-filled.buf) (take c.in_ok-n.n c.read.new.buf)
      c.loop-filled.invariant.read c.in_ok-n.ensures.bytes.0);
}
