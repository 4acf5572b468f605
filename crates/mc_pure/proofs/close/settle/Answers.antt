use Rattle.mc_pure.specs.Known.{pure_of}
use Rattle.mc_pure.proofs.Looping.{stable_by, elsewhere_step}
use Rattle.mc_pure.proofs.close.settle.Goals as goal

pub returns-in-Same-clause-yes : goal.returns-in-Same-clause-yes
returns-in-Same-clause-yes c = λ _. stable_by (pure_of c.args.known.now) c.loop-class.rows c.recheck_all.new.rows c.loop-class.invariant.sound c.in-Same.ensures

pub loop-class-preserved : goal.loop-class-preserved
loop-class-preserved c = record {
  sound = c.in-Changed.ensures.sound;
  rest = elsewhere_step (pure_of c.args.known.now) c.loop-class.rows c.recheck_all.new.rows c.in-Changed.class c.loop-class.scope c.widened-scope.result c.loop-class.invariant.sound c.in-Changed.ensures c.widened-scope.ensures.before c.widened-scope.ensures.more c.loop-class.invariant.rest;
}
