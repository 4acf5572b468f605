use Rattle.mc_lower.specs.Settled.{IsFilled}
use Rattle.mc_lower.proofs.Ways.{walk_settles, walk_first}
use Rattle.mc_lower.proofs.settling.settle_one.Goals as goal
use Rattle.mc_lower.proofs.settling.settle_one.Goals.{After-fill}

filled : (c : After-fill) → IsFilled c.walk.new.ways.items c.fill.new.ways.items c.walk.new.path.items c.in_ok-point.point
filled c = rw c.as_slice.ensures.value at c.fill.ensures

pub returns-clause-settles : goal.returns-clause-settles
returns-clause-settles c =
    let walk = c.in_ok-point.ensures in
    walk_settles walk.1 c.requires _ walk.2 _ (filled (goal.at.returns-clause-settles c).After-fill)

pub returns-clause-first : goal.returns-clause-first
returns-clause-first c =
    let walk = c.in_ok-point.ensures in
    walk_first walk.1 c.requires _ walk.2 _ (filled (goal.at.returns-clause-first c).After-fill)
