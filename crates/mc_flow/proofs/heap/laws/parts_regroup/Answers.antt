use Rattle.mc_flow.proofs.HeapLemmas.Splits.{split_commutes, split_regroups_left, split_regroups_right, split_drops_empty, split_adds_empty, split_keeps_addresses}
use Rattle.mc_flow.proofs.heap.laws.parts_regroup.Goals as goal

pub returns : goal.returns
returns c = record { commutes = split_commutes; left = split_regroups_left; right = split_regroups_right; drops_empty = split_drops_empty; adds_empty = split_adds_empty; keeps_addresses = split_keeps_addresses }
