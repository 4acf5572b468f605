use Rattle.mc_state.proofs.Changing as proof
use Rattle.mc_state.proofs.Parts.{SplitLaws}
use Rattle.mc_state.proofs.laws.edges_come_and_go.Goals as goal

pub returns : goal.returns
returns c =
    let p = c.parts_regroup.ensures in
    let laws : SplitLaws = record { commutes = p.commutes; left = p.left; right = p.right; drops_empty = p.drops_empty; adds_empty = p.adds_empty } in
    record { taken = proof.edges_are_taken laws; put = proof.edges_are_put laws; replaced = proof.edge_is_replaced laws; dropped = proof.edges_are_dropped laws }
