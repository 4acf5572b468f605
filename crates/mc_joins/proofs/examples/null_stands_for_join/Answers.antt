use Rattle.mc_joins.proofs.ExampleStands.{null_stands, no_cell}
use Rattle.mc_joins.proofs.Regions.{SplitLaws}
use Rattle.mc_joins.proofs.examples.null_stands_for_join.Goals as goal

pub returns : goal.returns
returns c =
    let p = c.parts_regroup.ensures in
    let splits : SplitLaws = record { commutes = p.commutes; left = p.left; right = p.right; drops_empty = p.drops_empty; adds_empty = p.adds_empty } in
    let stands = null_stands splits in
    record { list = stands; joined = stands; cell = no_cell }
