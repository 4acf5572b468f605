use Rattle.mc_pure.specs.Known.{pure_of}
use Rattle.mc_pure.proofs.Looping.{but_settled, but_step, closed_by}
use Rattle.mc_pure.proofs.close.include_within.Goals as goal

pub settle-requires-clause-rest : goal.settle-requires-clause-rest
settle-requires-clause-rest c = but_settled (pure_of c.args.known.now) c.loop-rows.rows c.apply.new.rows c.loop-rows.scope c.args.atom.now c.loop-rows.invariant.rest c.in-Same.ensures

pub loop-rows-preserved : goal.loop-rows-preserved
loop-rows-preserved c = record {
  sound = c.in-Changed.ensures.sound;
  rest = but_step (pure_of c.args.known.now) c.loop-rows.rows c.apply.new.rows c.in-Changed.class c.loop-rows.scope c.widened-scope.result c.loop-rows.invariant.sound c.in-Changed.ensures c.widened-scope.ensures.before c.widened-scope.ensures.more c.args.atom.now c.loop-rows.invariant.rest;
}

pub returns-in-Same : goal.returns-in-Same
returns-in-Same c = closed_by (pure_of c.args.known.now) c.settle.new.rows c.settle.result c.settle.ensures.yes c.settle.ensures.no
