use Rattle.std.proofs.Common.{refl}
use Rattle.mc_semantics.proofs.resolved.laws.small_programs_are_resolved.Goals as goal

pub returns-clause-hiding : goal.returns-clause-hiding
returns-clause-hiding c = refl

pub returns-clause-turning : goal.returns-clause-turning
returns-clause-turning c = refl

pub returns-clause-linking : goal.returns-clause-linking
returns-clause-linking c = refl
