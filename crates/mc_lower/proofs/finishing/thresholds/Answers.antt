use Rattle.std.proofs.Common.{sym, subst, map}
use Rattle.std.proofs.lemmas.List.Filters.{dedup_is}
use Rattle.mc_lower_spec.specs.Lowering.{AreThresholds}
use Rattle.mc_lower.specs.Worlds.{point_in}
use Rattle.mc_lower.proofs.Constants.{once_ascending, same_constants, thresholds_settled}
use Rattle.mc_lower.proofs.finishing.thresholds.Goals as goal

pub returns : goal.returns
returns c = λ at.
    let points = c.args.points.now in
    let is = dedup_is _ _ _ c.dedup.ensures.filtered in
    let sorted = once_ascending _ c.in_ok-sort.ensures.sorted in
    let these = same_constants points _ _ _ c.in_ok-sort.ensures.permutation is c.in_ok-list.ensures in
    subst (λ cs. AreThresholds (map (point_in at) points) cs) (sym c.of.ensures) (thresholds_settled at points _ (rw is sorted) these)
