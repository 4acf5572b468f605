use Rattle.mc_state.proofs.Parts.{SplitLaws}
use Rattle.mc_state.proofs.Worked.{raised_injective, raised_stands}
use Rattle.mc_state.proofs.examples.example_renaming.Goals as goal

pub returns-clause-injective : goal.returns-clause-injective
returns-clause-injective c = raised_injective

pub returns-clause-stands : goal.returns-clause-stands
returns-clause-stands c =
    let p = c.parts_regroup.ensures in
    let laws : SplitLaws = record { commutes = p.commutes; left = p.left; right = p.right; drops_empty = p.drops_empty; adds_empty = p.adds_empty } in
    raised_stands laws c.example_premises.ensures.split c.example_segments.ensures.one_cell c.example_premises.ensures.at_end
