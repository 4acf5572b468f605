use Rattle.std.proofs.Common.{arith}
use Rattle.mc_pure.specs.Known.{pure_of}
use Rattle.mc_pure.proofs.Looping.{starts_more, starts_all}
use Rattle.mc_pure.proofs.close.recheck_starts.Goals as goal

pub loop-i-preserved : goal.loop-i-preserved
loop-i-preserved c = starts_more (pure_of c.args.known.now) c.args.rows.now c.loop-i.rows c.recheck_start.new.rows c.args.scope.now c.loop-i.i c.loop-i.invariant c.in-Same.ensures

pub returns : goal.returns
returns c = starts_all (pure_of c.args.known.now) c.args.rows.now c.loop-i.rows c.args.scope.now c.loop-i.i (omega (arith, c.loop-i-test.false, c.len-i-end.ensures)) c.loop-i.invariant
