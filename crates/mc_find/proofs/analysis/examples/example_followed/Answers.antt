use Rattle.std.proofs.Common.{refl}
use Rattle.mc_find.proofs.analysis.examples.example_followed.Goals as goal

pub returns-clause-straight : goal.returns-clause-straight
returns-clause-straight c = (refl, refl)

pub returns-clause-merged : goal.returns-clause-merged
returns-clause-merged c = λ whole. absurd (cc whole.1)

pub returns-clause-looping : goal.returns-clause-looping
returns-clause-looping c = λ whole. absurd (cc whole.0)
