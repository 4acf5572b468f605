use Rattle.mc_state.proofs.Beginning.{unknown_stands, whole_without_edges}
use Rattle.mc_state.proofs.Parts.{SplitLaws}
use Rattle.mc_state.proofs.laws.nothing_is_allocated.Goals as goal

pub returns : goal.returns
returns c =
    let p = c.parts_regroup.ensures in
    let laws : SplitLaws = record { commutes = p.commutes; left = p.left; right = p.right; drops_empty = p.drops_empty; adds_empty = p.adds_empty } in
    record { unknown = unknown_stands laws; whole = whole_without_edges laws }
