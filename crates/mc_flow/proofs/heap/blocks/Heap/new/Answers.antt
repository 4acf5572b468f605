use Rattle.mc_flow.proofs.HeapLemmas.Entries.{none_allocated}
use Rattle.mc_flow.proofs.heap.blocks.Heap.new.Goals as goal

pub invariant_of-result : goal.invariant_of-result
invariant_of-result c = none_allocated c.new.result.entries c.new.ensures.empty
