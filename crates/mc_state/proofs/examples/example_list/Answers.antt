use Rattle.mc_state.proofs.Parts.{SplitLaws}
use Rattle.mc_state.proofs.Worked.{list_stands, list_cut}
use Rattle.mc_state.proofs.examples.example_list.Goals as goal

pub returns-clause-stands : goal.returns-clause-stands
returns-clause-stands c =
    let p = c.parts_regroup.ensures in
    let laws : SplitLaws = record { commutes = p.commutes; left = p.left; right = p.right; drops_empty = p.drops_empty; adds_empty = p.adds_empty } in
    list_stands laws c.example_premises.ensures.split c.example_segments.ensures.one_cell c.example_premises.ensures.at_end

pub returns-clause-cut : goal.returns-clause-cut
returns-clause-cut c =
    let p = c.parts_regroup.ensures in
    let laws : SplitLaws = record { commutes = p.commutes; left = p.left; right = p.right; drops_empty = p.drops_empty; adds_empty = p.adds_empty } in
    list_cut laws c.predicates_are_bodies.ensures.unfolds c.segments_join.ensures.predicate
