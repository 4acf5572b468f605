use Rattle.mc_pure_ops.proofs.JoinLemmas.Widening.{hull_ends}
use Rattle.mc_pure_ops.proofs.join.spans.hull.Goals as goal

pub returns-clause-lo : goal.returns-clause-lo
returns-clause-lo c = (hull_ends c.args.one.now c.args.other.now c.hull.result c.requires.one c.requires.other c.hull.ensures.least).0

pub returns-clause-hi : goal.returns-clause-hi
returns-clause-hi c = (hull_ends c.args.one.now c.args.other.now c.hull.result c.requires.one c.requires.other c.hull.ensures.least).1
