use Rattle.mc_joins.proofs.SameLemmas.Moving.{follows_renamed, false_renamed}
use Rattle.mc_joins.proofs.same.laws.derived_is_renamed.Goals as goal

pub returns : goal.returns
returns c = record { follows = follows_renamed; is_false = false_renamed }
