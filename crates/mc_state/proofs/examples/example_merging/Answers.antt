use Rattle.mc_state.proofs.OneCell.{names_stand, more_stands, two_do_not_stand, names_equal, lies_in_kind, none_between}
use Rattle.mc_state.proofs.Parts.{SplitLaws}
use Rattle.mc_state.proofs.examples.example_merging.Goals as goal

pub returns-clause-stands : goal.returns-clause-stands
returns-clause-stands c =
    let p = c.parts_regroup.ensures in
    let laws : SplitLaws = record { commutes = p.commutes; left = p.left; right = p.right; drops_empty = p.drops_empty; adds_empty = p.adds_empty } in
    names_stand laws c.heaps_change_one_address.ensures.empty c.heaps_change_one_address.ensures.insert

pub returns-clause-whole : goal.returns-clause-whole
returns-clause-whole c = two_do_not_stand

pub returns-clause-not_whole : goal.returns-clause-not_whole
returns-clause-not_whole c =
    let p = c.parts_regroup.ensures in
    let laws : SplitLaws = record { commutes = p.commutes; left = p.left; right = p.right; drops_empty = p.drops_empty; adds_empty = p.adds_empty } in
    more_stands laws c.heaps_change_one_address.ensures.empty c.heaps_change_one_address.ensures.insert c.example_premises.ensures.split

pub returns-clause-equal : goal.returns-clause-equal
returns-clause-equal c = names_equal

pub returns-clause-wrong : goal.returns-clause-wrong
returns-clause-wrong c = none_between

pub returns-clause-lies : goal.returns-clause-lies
returns-clause-lies c = lies_in_kind
