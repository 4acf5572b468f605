use Rattle.mc_state.proofs.OneCell.{back_meets, back_stands}
use Rattle.mc_state.proofs.Parts.{SplitLaws}
use Rattle.mc_state.proofs.examples.example_parts.Goals as goal

pub returns-clause-others : goal.returns-clause-others
returns-clause-others c =
    let p = c.parts_regroup.ensures in
    let laws : SplitLaws = record { commutes = p.commutes; left = p.left; right = p.right; drops_empty = p.drops_empty; adds_empty = p.adds_empty } in
    back_stands laws c.heaps_change_one_address.ensures.empty c.heaps_change_one_address.ensures.insert c.example_premises.ensures.at_end

pub returns-clause-other : goal.returns-clause-other
returns-clause-other c =
    let p = c.parts_regroup.ensures in
    let laws : SplitLaws = record { commutes = p.commutes; left = p.left; right = p.right; drops_empty = p.drops_empty; adds_empty = p.adds_empty } in
    back_meets laws c.heaps_change_one_address.ensures.empty c.heaps_change_one_address.ensures.insert
