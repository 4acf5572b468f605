use Rattle.std.proofs.Common.{arith}
use Rattle.mc_pure.specs.Known.{pure_of}
use Rattle.mc_pure.proofs.Looping.{pair_more, pairs_all}
use Rattle.mc_pure.proofs.close.recheck_pairs.Goals as goal

pub loop-j-preserved : goal.loop-j-preserved
loop-j-preserved c = pair_more (pure_of c.args.known.now) c.args.rows.now c.loop-j.rows c.recheck_pair.new.rows c.args.i c.loop-j.j c.loop-j.invariant c.in-Same.ensures

pub returns : goal.returns
returns c = pairs_all (pure_of c.args.known.now) c.args.rows.now c.loop-j.rows c.args.i c.loop-j.j (omega (arith, c.loop-j-test.false, c.len-j-end.ensures)) c.loop-j.invariant
