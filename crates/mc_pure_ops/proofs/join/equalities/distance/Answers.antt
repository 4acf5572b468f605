use Rattle.mc_pure_ops.proofs.JoinLemmas.Follow.{apart_none, by_offsets}
use Rattle.mc_pure_ops.proofs.join.equalities.distance.Goals as goal

pub returns-then-one-other : goal.returns-then-one-other
returns-then-one-other c = apart_none c.args.pure.now c.requires.not_false c.args.first c.args.second c.class_of-one.result.least c.class_of-other.result.least _ _ c.class_of-one.ensures.least c.class_of-other.ensures.least c.class_of-one.ensures.equal c.class_of-other.ensures.equal c.if-one-other.true

pub returns : goal.returns
returns c = by_offsets c.args.pure.now c.requires.not_false c.args.first c.args.second c.class_of-one.result.least c.class_of-other.result.least _ _ c.difference.result c.requires.first c.requires.second c.class_of-one.ensures.equal c.class_of-other.ensures.equal c.if-one-other.false c.difference.ensures
