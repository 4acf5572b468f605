use Rattle.mc_flow.proofs.HeapLemmas.Splits.{empty_heap_is_empty, region_tells_heap, insert_changes, remove_changes, insert_keeps_addresses, remove_keeps_addresses}
use Rattle.mc_flow.proofs.heap.laws.heaps_change_one_address.Goals as goal

pub returns : goal.returns
returns c = record { empty = empty_heap_is_empty; tells = region_tells_heap; insert = insert_changes; remove = remove_changes; insert_keeps = insert_keeps_addresses; remove_keeps = remove_keeps_addresses }
