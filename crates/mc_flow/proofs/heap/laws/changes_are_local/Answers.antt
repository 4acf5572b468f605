use Rattle.mc_flow.proofs.HeapLemmas.Splits.{cell_is_read, cell_is_added, cell_is_replaced, cell_is_removed}
use Rattle.mc_flow.proofs.heap.laws.changes_are_local.Goals as goal

pub returns : goal.returns
returns c = record { read = cell_is_read; added = cell_is_added; replaced = cell_is_replaced; removed = cell_is_removed }
