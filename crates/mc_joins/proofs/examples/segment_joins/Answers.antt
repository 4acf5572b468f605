use Rattle.std.proofs.Common.{refl}
use Rattle.mc_shape_search.specs.Search.Search.{options, tries}
use Rattle.mc_state.specs.Known.{has_kind}
use Rattle.mc_rules_logic.specs.Fold.ChangeJudges.{is_there}
use Rattle.mc_joins.proofs.examples.segment_joins.Goals as goal

pub returns : goal.returns
unfolding options tries has_kind is_there
returns c = record { right = refl; left = refl }
