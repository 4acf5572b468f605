use Rattle.mc_joins.proofs.SameLemmas.Same.{same_as_itself, same_is_turned, same_is_passed_on}
use Rattle.mc_joins.proofs.same.laws.sameness_is_an_equivalence.Goals as goal

pub returns : goal.returns
returns c = record { itself = same_as_itself; turned = same_is_turned; passed_on = same_is_passed_on }
